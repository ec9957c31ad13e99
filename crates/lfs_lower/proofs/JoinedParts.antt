-- Parts with one superblock.
use Rattle.std.proofs.Common.{◌≡◌, ◌⊎◌, inl, inr, ℕ, ◌+◌, ◌<◌, Bool, true, false, List, [], ◌∷◌, ◌++◌, length, map, take, drop, get_or, Option, Some, None, zero, suc, refl, ap, sym, ◌∙◌, arith}
use Rattle.std.specs.Option.{option_or}
use Rattle.std.proofs.lemmas.Grind.{common_steps}
use Rattle.std.proofs.lemmas.List.{take_more}
use Rattle.std.specs.Prelude.{Contains, option_and_then, option_map, if◌then◌else◌}
use Rattle.std.specs.List.{list_any}
use Rattle.std.proofs.lemmas.List.Folds.{list_any_at}
use Rattle.std.proofs.lemmas.List.Sums.{sum_by-cons}
use Rattle.lfs_meta.specs.Body.{Pair}
use Rattle.lfs_meta.specs.Entry.{StoredEntry}
use Rattle.lfs_meta.specs.Part.{StoredPart}
use Rattle.lfs_fs.specs.Front.{pair_names, pairs_name}
use Rattle.lfs_fs.specs.Pair.{root, same_pair}
use Rattle.lfs_fs.specs.Reading.{Reading}
use Rattle.lfs_fs.proofs.BothSidesLemmas.{not_root}
use Rattle.lfs_fs.proofs.ContainsLemmas.{contains_first, contains_later}
use Rattle.lfs_fs.proofs.PairLemmas.{same_pair-refl}
use Rattle.lfs_fs.specs.Gathering.{PairPart}
use Rattle.lfs_lower.specs.OneSuperblock.{entry_or, is_fresh, joined_of_superblocks, last_from, lead, pairs_along, superblock_pairs, lowered_entry, superblock_at, superblock_in}
use Rattle.lfs_lower.specs.Joining.{last_in, led_parts, lowered_in, parts_held, stripped}
use Rattle.lfs_lower.proofs.FreshPairs.{along_fresh}
use Rattle.lfs_lower.proofs.GatheredParts.{along_none, held_none, held_some, lead_none}

-- the last one of parts and one more
last_more : (found : Option StoredEntry) (ps : List PairPart) (p : PairPart)
    → last_in found (ps ++ p ∷ []) ≡ entry_or (lowered_in p) (last_in found ps)
last_more found [] p = refl
last_more found (q ∷ ps) p = last_more (entry_or (lowered_in q) found) ps p

or_is : (e other : Option StoredEntry) → option_or e other ≡ entry_or e other
or_is None other = refl
or_is (Some e) other = refl

-- what is behind is still as it was
behind_is : (xs : List PairPart) (i : ℕ) (p : PairPart) → i < length xs → get_or (map stripped (take i xs) ++ drop i xs) i p ≡ get_or xs i p
behind_is xs i p within = grind (arith, common_steps)

-- the last one of one part more
pub last_step : (xs ys : List PairPart) (i : ℕ) (p : PairPart) (found : Option StoredEntry) → i < length xs
    → ys ≡ map stripped (take i xs) ++ drop i xs → p ≡ get_or ys i p → found ≡ last_in None (take i xs)
    → option_or (lowered_in p) found ≡ last_in None (take (i + 1) xs)
last_step xs ys i p found within behind at is =
    let same : p ≡ get_or xs i p = at ∙ ap (λ (zs : List PairPart). get_or zs i p) behind ∙ behind_is xs i p within in
    or_is (lowered_in p) found ∙ ap (entry_or (lowered_in p)) is ∙ sym (last_more None (take i xs) p)
    ∙ ap (λ (q : PairPart). last_in None (take i xs ++ q ∷ [])) same ∙ ap (last_in None) (sym (take_more xs i p within))

-- ---- the last superblock

or_map : (a b : Option StoredEntry) → option_map lowered_entry (entry_or a b) ≡ entry_or (option_map lowered_entry a) (option_map lowered_entry b)
or_map None b = refl
or_map (Some e) b = refl

last_by : (r : Reading) (found : Option StoredEntry) (p : Pair) (ps : List Pair) (o : Option StoredPart) → r.part p ≡ o
    → ((other : Option StoredEntry) → last_in (option_map lowered_entry other) (parts_held r ps)
    ≡ option_map lowered_entry (last_from (superblock_at r) other ps))
    → last_in (option_map lowered_entry found) (parts_held r (p ∷ ps)) ≡ option_map lowered_entry (last_from (superblock_at r) found (p ∷ ps))
last_by r found p ps None read rest =
    let none : superblock_at r p ≡ None = ap (λ (o : Option StoredPart). option_and_then (λ (s : StoredPart). superblock_in s.entries) o) read in
    ap (last_in (option_map lowered_entry found)) (held_none r p ps read) ∙ rest found
    ∙ ap (λ (e : Option StoredEntry). option_map lowered_entry (last_from (superblock_at r) (entry_or e found) ps)) (sym none)
last_by r found p ps (Some s) read rest =
    let some' : superblock_at r p ≡ superblock_in s.entries =
    ap (λ (o : Option StoredPart). option_and_then (λ (s : StoredPart). superblock_in s.entries) o) read in
    ap (last_in (option_map lowered_entry found)) (held_some r p ps s read)
    ∙ ap (λ (e : Option StoredEntry). last_in e (parts_held r ps)) (sym (or_map (superblock_in s.entries) found))
    ∙ rest (entry_or (superblock_in s.entries) found)
    ∙ ap (λ (e : Option StoredEntry). option_map lowered_entry (last_from (superblock_at r) (entry_or e found) ps)) (sym some')

-- the last one of what pairs hold is that of the pairs, lowered
pub last_is : (r : Reading) (found : Option StoredEntry) (ps : List Pair)
    → last_in (option_map lowered_entry found) (parts_held r ps) ≡ option_map lowered_entry (last_from (superblock_at r) found ps)
last_is r found [] = refl
last_is r found (p ∷ ps) = last_by r found p ps (r.part p) refl (λ other. last_is r other ps)

-- ---- what the pairs are to hold

-- a part as it is to be
abbrev pub joined_part : List Pair → Option StoredEntry → PairPart → PairPart
joined_part pairs last p = (p.0, joined_of_superblocks pairs last p.0 p.1)

any_there : (pairs : List Pair) (p : Pair) → Contains pairs p → list_any (same_pair p) pairs ≡ true
any_there pairs p (k, within, is) =
    list_any_at (same_pair p) pairs k p within (ap (same_pair p) is ∙ same_pair-refl p)

-- behind the first pair a part loses its superblock
stripped_is : (pairs : List Pair) (last : Option StoredEntry) (p : PairPart) → list_any (same_pair p.0) pairs ≡ true
    → same_pair p.0 root ≡ false → stripped p ≡ joined_part pairs last p
stripped_is pairs last p there other = rw (there, other) refl

named_root : (p : Pair) (ps : List Pair) → pairs_name 0 (p ∷ ps) ≡ 0 → same_pair p root ≡ false
named_root p ps none =
    not_root p (λ is. let named : pair_names 0 p ≡ 1 = ap (pair_names 0) is in absurd (omega (arith, sum_by-cons (pair_names 0) p ps)))

others_by : (r : Reading) (pairs : List Pair) (last : Option StoredEntry) (p : Pair) (ps : List Pair) (o : Option StoredPart) → r.part p ≡ o
    → list_any (same_pair p) pairs ≡ true → same_pair p root ≡ false
    → map stripped (parts_held r ps) ≡ map (joined_part pairs last) (parts_held r ps)
    → map stripped (parts_held r (p ∷ ps)) ≡ map (joined_part pairs last) (parts_held r (p ∷ ps))
others_by r pairs last p ps None read there other rest = rw (held_none r p ps read) rest
others_by r pairs last p ps (Some s) read there other rest =
    let one : stripped (p, s) ≡ joined_part pairs last (p, s) = stripped_is pairs last (p, s) there other in
    rw (held_some r p ps s read) (ap (λ (q : PairPart). q ∷ map stripped (parts_held r ps)) one
    ∙ ap (λ (qs : List PairPart). joined_part pairs last (p, s) ∷ qs) rest)

-- parts behind the first pair's
others_is : (r : Reading) (pairs : List Pair) (last : Option StoredEntry) (ps : List Pair)
    → ((p : Pair) → Contains ps p → list_any (same_pair p) pairs ≡ true) → pairs_name 0 ps ≡ 0
    → map stripped (parts_held r ps) ≡ map (joined_part pairs last) (parts_held r ps)
others_is r pairs last [] there none = refl
others_is r pairs last (p ∷ ps) there none =
    others_by r pairs last p ps (r.part p) refl (there p (contains_first p ps)) (named_root p ps none)
    (others_is r pairs last ps (λ q in'. there q (contains_later p ps q in')) (omega (arith, sum_by-cons (pair_names 0) p ps)))

-- none, where no pair holds a part
led_none : (last : Option StoredEntry) → led_parts (option_map lowered_entry last) [] ≡ []
led_none None = refl
led_none (Some e) = refl

-- the last superblock before the entries of the first pair's part
led_first : (last : Option StoredEntry) (rest : List Pair) (s : StoredPart) (ps : List PairPart)
    → led_parts (option_map lowered_entry last) (stripped (root, s) ∷ ps) ≡ joined_part (root ∷ rest) last (root, s) ∷ ps
led_first None rest s ps = refl
led_first (Some e) rest s ps = refl

led_by_part : (r : Reading) (last : Option StoredEntry) (rest : List Pair) (o : Option StoredPart) → r.part root ≡ o
    → (r.part root ≡ None → rest ≡ []) → pairs_name 0 rest ≡ 0
    → led_parts (option_map lowered_entry last) (map stripped (parts_held r (root ∷ rest)))
    ≡ map (joined_part (root ∷ rest) last) (parts_held r (root ∷ rest))
led_by_part r last rest None read ends none =
    let empty : parts_held r (root ∷ rest) ≡ [] = held_none r root rest read ∙ ap (parts_held r) (ends read) in
    rw empty (led_none last)
led_by_part r last rest (Some s) read ends none =
    rw (held_some r root rest s read) (led_first last rest s (map stripped (parts_held r rest))
    ∙ ap (λ (qs : List PairPart). joined_part (root ∷ rest) last (root, s) ∷ qs)
    (others_is r (root ∷ rest) last rest (λ q in'. any_there (root ∷ rest) q (contains_later root rest q in')) none))

-- pairs that begin with the root's, or none
pub record BeginSo (r : Reading) (ps : List Pair) : Type 0 where
  pub rest : List Pair
  pub is : ps ≡ root ∷ rest
  pub ends : r.part root ≡ None → rest ≡ []

begin_by : (r : Reading) (t : Bool) (rest : List Pair) → (r.part root ≡ None → rest ≡ [])
    → ((if t then root ∷ rest else []) ≡ []) ⊎ BeginSo r (if t then root ∷ rest else [])
begin_by r true rest ends = inr (record { rest = rest; is = refl; ends = ends })
begin_by r false rest ends = inl refl

pairs_begin : (r : Reading) (count n : ℕ) → (pairs_along (lead r) count [] n (Some root) ≡ []) ⊎ BeginSo r (pairs_along (lead r) count [] n (Some root))
pairs_begin r count zero = inl refl
pairs_begin r count (suc n) =
    begin_by r (is_fresh count [] root) (pairs_along (lead r) count (root ∷ []) n (lead r root))
    (λ none. ap (pairs_along (lead r) count (root ∷ []) n) (lead_none r root none) ∙ along_none (lead r) count (root ∷ []) n)

-- the parts as they are to be
pub led_is : (r : Reading) (last : Option StoredEntry) → led_parts (option_map lowered_entry last) (map stripped (parts_held r (superblock_pairs r)))
    ≡ map (joined_part (superblock_pairs r) last) (parts_held r (superblock_pairs r))
led_is r last =
    elim (pairs_begin r r.count r.count) [
      | inl none ↦ (rw none (led_none last))
      | inr h ↦ (
          let fresh = along_fresh (lead r) r.count r.count (Some root) in
          let once = fresh.once 0 in
          let named : pairs_name 0 (superblock_pairs r) ≡ pairs_name 0 (root ∷ h.rest) = ap (pairs_name 0) h.is in
          rw h.is (led_by_part r last h.rest (r.part root) refl h.ends (omega (arith, sum_by-cons (pair_names 0) root h.rest))))
    ]
