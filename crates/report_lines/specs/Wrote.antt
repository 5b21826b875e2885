-- What a function that puts bytes into `out` leaves: the bytes before `at` as they were, then the new ones, and where they end. Bytes past the end may be any.
-- Assumes nothing.
use Rattle.std.specs.Prelude.{◌≡◌, List, ◌++◌, ℕ, ◌+◌, length, take}

pub record Wrote (out out' : List ℕ) (at : ℕ) (new : List ℕ) (end : ℕ) : Type 0 where
  pub ends : end ≡ at + length new
  pub same_length : length out' ≡ length out
  pub text : take end out' ≡ take at out ++ new
