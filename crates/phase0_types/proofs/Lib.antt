pub mod BitLemmas
pub mod TextLemmas
pub mod RoundTrip
pub mod ItemLemmas
