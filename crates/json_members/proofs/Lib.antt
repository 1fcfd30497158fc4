mod BodyLemmas
