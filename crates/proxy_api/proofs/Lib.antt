mod SendLemmas
mod WantedLemmas
mod ListingLemmas
