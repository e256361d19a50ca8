-- Searching for the fullest and the emptiest round from where they were found before. Definitions; assumes nothing.
use Rattle.std.specs.Prelude.{◌≡◌, ◌≢◌, ℕ, ◌<◌, ◌≤◌, Bool, true, false, Option, MatchOption, List, length, nat_lt, slice_index}
use Rattle.meetings.specs.declared.numbers.Round.{Round}
use Rattle.chains.specs.declared.neighbours.TwoRounds.{TwoRounds}
use Rattle.balance.specs.declared.searching.Reached.{Reached}
use Rattle.balance.specs.declared.searching.Search.{Search}
use Rattle.balance.specs.Sizes.{more}

-- no number beats the size, and it beats those before its round
pub record SearchedTo (beats : ℕ → ℕ → Bool) (ns : List ℕ) (u : Reached) : Type 0 where
  pub within : u.round.0 ≤ length ns
  pub all : (i : ℕ) → i < length ns → beats (slice_index ns i) u.size ≡ false
  pub before : (i : ℕ) → i < u.round.0 → beats u.size (slice_index ns i) ≡ true

pub record Searched (ns : List ℕ) (s : Search) : Type 0 where
  pub full : SearchedTo more ns s.full
  pub empty : SearchedTo nat_lt ns s.empty

-- the next round of a size, from one round on
pub record IsNext (ns : List ℕ) (size from : ℕ) (c : Round) : Type 0 where
  pub from_there : from ≤ c.0
  pub below : c.0 < length ns
  pub is : slice_index ns c.0 ≡ size
  pub before : (i : ℕ) → from ≤ i → i < c.0 → slice_index ns i ≢ size

abbrev pub NextOf : List ℕ → ℕ → ℕ → Option Round → Type 0
NextOf ns size from o =
    MatchOption o ((i : ℕ) → from ≤ i → i < length ns → slice_index ns i ≢ size) (IsNext ns size from)

-- both were searched to where they were found
pub record FoundAt (ns : List ℕ) (s : Search) (t : TwoRounds) : Type 0 where
  pub full : s.full ≡ record { size = slice_index ns t.a.0; round = t.a }
  pub empty : s.empty ≡ record { size = slice_index ns t.b.0; round = t.b }
