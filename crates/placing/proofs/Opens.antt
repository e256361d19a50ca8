-- The chain opens a round for a meeting without a common free one: it starts at the station's meeting in a, where the group is
-- free; the station is free in b, so that the chain is a whole part, and it never comes to the group. Assumes nothing.
use Rattle.std.proofs.Common.{◌≡◌, ℕ, ◌<◌, true, false, ◌&&◌, List, length, sym, refl, ap, ◌∙◌, subst, ⊎_elim, arith}
use Rattle.std.proofs.lemmas.Bool.{both_ways, and_cases, or_left, eq-eqb}
use Rattle.meetings.specs.declared.numbers.Meeting.{Meeting}
use Rattle.meetings.specs.declared.numbers.Side.{Side}
use Rattle.meetings.specs.declared.numbers.Side.TheVariants.{Groups, Stations}
use Rattle.chains.specs.Chains.{Sound, two, nothing, holds}
use Rattle.chains.specs.Partial.{party_of, round_of, meeting_of}
use Rattle.chains.specs.Statements.{PartOf}
use Rattle.chains.proofs.Exchange.{two_sound}
use Rattle.chains.proofs.Lowest.{lowest_of}
use Rattle.chains.proofs.Parts.{chain_more, parts}
use Rattle.chains.proofs.Runs.{chain_whole, never_comes}
use Rattle.chains.proofs.Short.{short}
use Rattle.placing.specs.Putting.{free, own_free, chain_for}
use Rattle.placing.specs.Statements.{Ready, Opens, ChainOpens}
use Rattle.placing.proofs.FreeRounds.{free_is, not_free_is, found_is, has_free}

-- the group is free in a, the station in b and not in a
opened : (n k r : ℕ) (ms : List Meeting) (xs : List ℕ) (i : ℕ) → Ready n k r ms xs i → (a b : ℕ) → a < r → b < r → free ms xs i Groups a ≡ true → free ms xs i Stations b ≡ true → free ms xs i Stations a ≡ false → Opens n k ms xs i a b (chain_for ms xs i a b)
opened n k r ms xs i ready a b la lb group station taken = record {
  different = differ;
  starts = here;
  starts_in = there.1;
  whole = chain_part;
  more = chain_more (two ms xs a b) nothing x sound there.1;
  short = short (two ms xs a b) n k x (chain_for ms xs i a b) sound (λ j h. (ready.exist Groups j h, ready.exist Stations j h)) chain_part;
  goes = goes;
  comes = comes;
}
  where
    x : ℕ
    x = meeting_of ms xs Stations (party_of ms Stations i) a

    here : x < length ms
    here = not_free_is ms xs ready.few i Stations a taken

    there : (party_of ms Stations x ≡ party_of ms Stations i) × (round_of xs x ≡ a)
    there = found_is ms xs ready.few i Stations a here

    differ : a ≡ b → ⊥
    differ e = both_ways (free ms xs i Stations a) taken (ap (free ms xs i Stations) e ∙ station)

    sound : Sound (two ms xs a b)
    sound = two_sound r ms xs a b ready.few la lb differ ready.plan

    chain_part : PartOf (two ms xs a b) x (chain_for ms xs i a b)
    chain_part =
        subst
        (λ is. PartOf (two ms xs a b) x is)
        (sym (chain_whole (two ms xs a b) nothing x sound there.1 (λ j h c p. free_is ms xs ready.few i Stations b station j h (p ∙ there.0) c)))
        (parts (two ms xs a b) nothing x sound (λ i j beside never. never) here (or_left _ _ (eq-eqb _ _ there.1)) refl).0

    goes : (s : Side) (j : ℕ) → j < length ms → party_of ms s j ≡ party_of ms s i → round_of xs j ≡ a → holds (chain_for ms xs i a b) j ≡ true
    goes Groups j h p c = absurd (free_is ms xs ready.few i Groups a group j h p c)
    goes Stations j h p c =
        let same = ready.plan.apart Stations j x h here (omega arith) (c ∙ sym there.1) (p ∙ sym there.0) in
        ap (holds (chain_for ms xs i a b)) same ∙ chain_part.starts

    comes : (s : Side) (j : ℕ) → j < length ms → party_of ms s j ≡ party_of ms s i → round_of xs j ≡ b → holds (chain_for ms xs i a b) j ≡ true → ⊥
    comes Groups j h p c held = never_comes (two ms xs a b) nothing x (party_of ms Groups i) sound here there.1 (λ j h c p. free_is ms xs ready.few i Groups a group j h p c) j held p
    comes Stations j h p c held = free_is ms xs ready.few i Stations b station j h p c

pub chain_opens : ChainOpens
chain_opens n k r ms xs i ready no_common =
    let a = own_free r ms xs i Groups in
    let b = own_free r ms xs i Stations in
    let la = own Groups in
    let lb = own Stations in
    let group = (lowest_of (free ms xs i Groups) r).passes la in
    let station = (lowest_of (free ms xs i Stations) r).passes lb in
    let not_both = (lowest_of (λ c. free ms xs i Groups c && free ms xs i Stations c) r).before a (omega arith) in
    let taken = ⊎_elim (λ e. absurd (both_ways _ e group)) (λ e. e) (and_cases (free ms xs i Groups a) (free ms xs i Stations a) not_both) in
    (la, lb, opened n k r ms xs i ready a b la lb group station taken)
  where
    own : (s : Side) → own_free r ms xs i s < r
    own s = has_free ms xs i s r ready.few (ready.spare s)
