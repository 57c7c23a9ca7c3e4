mod PlacedLemmas
mod ProblemLemmas
