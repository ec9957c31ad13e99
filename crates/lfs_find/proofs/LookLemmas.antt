-- A byte that is looked at.
use Rattle.std.proofs.Common.{◌≡◌, ℕ, ◌+◌, ◌/◌, ◌<◌, ◌≤◌, true, leb, List, length, drop, Option, None, ap, ◌∙◌, arith, length-drop}
use Rattle.std.specs.Prelude.{◌&&◌}
use Rattle.std.proofs.lemmas.Bool.{and_parts, leb-true}
use Rattle.std.specs.Int.{w32, from_le_bytes}
use Rattle.lfs_find.specs.Found.{IsLooked, IsBest, costs, from_behind, listed, looks_at, places_at, until_behind}
use Rattle.lfs_find.specs.Place.{is_first_word, log_begins}
use Rattle.lfs_find.specs.Sizes.{may_look}
use Rattle.lfs_find.specs.declared.found.Found.{Found}
use Rattle.lfs_find.specs.declared.search.Search.{Search}

-- what is known of it
pub record CanLook (bytes : List ℕ) (s : Search) (at : ℕ) : Type 0 where
  pub behind : s.from ≤ at
  pub log : at + 8 ≤ length bytes
  pub spent : s.spent ≤ at / 256 + 4096

pub can_look : (bytes : List ℕ) (s : Search) (at : ℕ) → at < length bytes → looks_at bytes s at ≡ true → CanLook bytes s at
can_look bytes s at within looks =
    let a = and_parts (leb s.from at && log_begins (drop at bytes)) (may_look at s.spent) looks in
    let b = and_parts (leb s.from at) (log_begins (drop at bytes)) a.0 in
    let c = and_parts (leb 8 (length (drop at bytes))) (is_first_word (from_le_bytes w32 (drop 4 (drop at bytes)))) b.1 in
    let long : 8 ≤ length (drop at bytes) = leb-true _ _ c.0 in
    record {
      behind = leb-true _ _ b.0;
      log = omega (arith, long, length-drop at bytes);
      spent = leb-true _ _ a.1;
    }

-- how the search goes on
pub looked_is : (bytes sizes : List ℕ) (s behind : Search) (at : ℕ) (best here : Option Found)
    → IsBest bytes (places_at bytes sizes s.from at) None best → here ≡ listed s best → behind.from ≡ from_behind s best
    → behind.until ≡ until_behind s best → behind.spent ≡ s.spent + 1 + costs (places_at bytes sizes s.from at)
    → IsLooked bytes sizes s at here behind
looked_is bytes sizes s behind at best here is found from until spent = record {
  best = best;
  is_best = is;
  found_is = found;
  behind_is =
      ap (λ (n : ℕ). let r : Search = record { from = n; until = behind.until; spent = behind.spent } in r) from
      ∙ ap (λ (n : ℕ). let r : Search = record { from = from_behind s best; until = n; spent = behind.spent } in r) until
      ∙ ap (λ (n : ℕ). let r : Search = record { from = from_behind s best; until = until_behind s best; spent = n } in r) spent;
}
