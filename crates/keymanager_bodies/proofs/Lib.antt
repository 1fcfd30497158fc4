mod KeystoreLemmas
mod ReplyLemmas
