mod RouteLemmas
mod TokenLemmas
