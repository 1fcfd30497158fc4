mod FittingLemmas
mod ReplyLemmas
