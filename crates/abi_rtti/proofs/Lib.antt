mod RepeatLemmas
mod WalkLemmas
