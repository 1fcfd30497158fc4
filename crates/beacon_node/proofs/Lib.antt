mod CallLemmas
mod DetailsLemmas
mod PlainLemmas
mod RowLemmas
