-- Blocks by themselves, one after another.
use Rattle.std.proofs.Common.{◌≡◌, ◌⊎◌, ℕ, ◌+◌, ◌<◌, Bool, true, false, List, [], ◌∷◌, ◌++◌, length, take, get_or, Some, None, zero, suc, refl, ap, sym, ◌∙◌, arith, cond, subst, map}
use Rattle.std.specs.Prelude.{All, Contains, Option, is_some, not, ◌&&◌, slice_index_or, slice_set}
use Rattle.std.specs.List.{filter, range_with_len}
use Rattle.std.proofs.lemmas.List.{append-nil, take_more}
use Rattle.std.proofs.lemmas.List.Concat.{flat_map-append}
use Rattle.std.proofs.lemmas.List.Elements.{All-head, All-tail}
use Rattle.std.proofs.lemmas.List.FromFn.{filter_of_map_range_with_len_more, get_or-map-range_with_len, length-map-range_with_len}
use mathlib.Core.Logic.{inl, inr}
use Rattle.lfs_block.specs.Disk.{Disk}
use Rattle.lfs_block.specs.declared.mount_fault.MountFault.{MountFault}
use Rattle.lfs_block.specs.declared.mount_fault.MountFault.TheVariants.{Memory}
use Rattle.lfs_meta.specs.Body.{Pair}
use Rattle.lfs_meta.specs.Cause.{ReadCause}
use Rattle.lfs_meta.specs.Entry.{StoredEntry}
use Rattle.lfs_meta.specs.Laws.{UnreadPairsHoldNoPart}
use Rattle.lfs_meta.specs.LiveBlock.{stored_part_of}
use Rattle.lfs_meta.specs.Part.{StoredPart}
use Rattle.lfs_survey.specs.Looking.{Grows, is_open}
use Rattle.lfs_survey.specs.Lone.{NoneIsLeft, alone, body_pairs, entries_pairs, is_lone, lone_pairs, marked_by, marked_of, marked_of_all}

-- ---- one pair

-- a pair that isn't read for another cause than want of memory holds no part
pub unread_none : (d : Disk) (pair : Pair) (fault : MountFault) → UnreadPairsHoldNoPart → (fault ≡ Memory → ⊥) → ReadCause fault d pair
    → stored_part_of d pair ≡ None
unread_none d pair Memory none other cause = absurd (other refl)
unread_none d pair fault none other cause = none fault d pair cause

-- ---- marks

pub marked_append : (table : List Bool) (xs ys : List Pair) → marked_by table (xs ++ ys) ≡ marked_by (marked_by table xs) ys
marked_append table [] ys = refl
marked_append table (p ∷ xs) ys = marked_append (slice_set (slice_set table p.0 true) p.1 true) xs ys

-- the pairs of several lists, one after another
of_all_append : (d : Disk) (table : List Bool) (xs ys : List Pair)
    → marked_of_all d table (xs ++ ys) ≡ marked_of_all d (marked_of_all d table xs) ys
of_all_append d table [] ys = refl
of_all_append d table (p ∷ xs) ys = of_all_append d (marked_of d table p) xs ys

-- those of one entry more
pub entries_marked : (old now new : List Bool) (i : ℕ) (es : List StoredEntry) (e : StoredEntry) → i < length es → e ≡ get_or es i e
    → now ≡ marked_by old (entries_pairs (take i es)) → new ≡ marked_by now (body_pairs e.body)
    → new ≡ marked_by old (entries_pairs (take (i + 1) es))
entries_marked old now new i es e within is before after =
    let one : entries_pairs (e ∷ []) ≡ body_pairs e.body = append-nil (body_pairs e.body) in
    let all : entries_pairs (take (i + 1) es) ≡ entries_pairs (take i es) ++ body_pairs e.body =
    ap entries_pairs (take_more es i e within ∙ ap (λ (x : StoredEntry). take i es ++ x ∷ []) (sym is))
    ∙ flat_map-append (λ (x : StoredEntry). body_pairs x.body) (take i es) (e ∷ [])
    ∙ ap (λ (ps : List Pair). entries_pairs (take i es) ++ ps) one in
    after ∙ ap (λ (t : List Bool). marked_by t (body_pairs e.body)) before
    ∙ sym (marked_append old (entries_pairs (take i es)) (body_pairs e.body)) ∙ ap (marked_by old) (sym all)

-- ---- one block more

pub lone_more : (d : Disk) (looked : List Bool) (n : ℕ) → lone_pairs d looked (n + 1)
    ≡ lone_pairs d looked n ++ cond (is_lone d looked (alone n)) (alone n ∷ []) []
lone_more d looked n = filter_of_map_range_with_len_more (is_lone d looked) alone 0 n n (omega arith)

-- the pairs so far, with the blocks that their parts name
pub record IsFinding (d : Disk) (looked before now : List Bool) (pairs : List Pair) (n : ℕ) : Type 0 where
  pub pairs_are : pairs ≡ lone_pairs d looked n
  pub named : now ≡ marked_of_all d before pairs

pub finding_more : (d : Disk) (looked before now next : List Bool) (pairs new : List Pair) (n : ℕ) → IsFinding d looked before now pairs n
    → new ≡ pairs ++ cond (is_lone d looked (alone n)) (alone n ∷ []) []
    → next ≡ marked_of_all d now (cond (is_lone d looked (alone n)) (alone n ∷ []) []) → IsFinding d looked before next new (n + 1)
finding_more d looked before now next pairs new n h push mark =
    let one = cond (is_lone d looked (alone n)) (alone n ∷ []) [] in
    record {
      pairs_are = push ∙ ap (λ (ps : List Pair). ps ++ one) h.pairs_are ∙ sym (lone_more d looked n);
      named = mark ∙ ap (λ (t : List Bool). marked_of_all d t one) h.named ∙ sym (of_all_append d before pairs one)
          ∙ ap (marked_of_all d before) (sym push);
    }

-- ---- no block is left

module _ {X : Type 0} (P : X → Type 0) (p : X → Bool) where
  behind_kept : (x : X) (xs : List X) (t : Bool) → All P (cond t (x ∷ xs) xs) → All P xs
  behind_kept x xs true all = All-tail P x xs all
  behind_kept x xs false all = all

  kept_holds : (xs : List X) (x : X) → Contains xs x → p x ≡ true → All P (filter p xs) → P x
  kept_holds [] x (k, within, is) pass all = absurd (omega (arith, within))
  kept_holds (y ∷ xs) x (zero, within, is) pass all =
      subst P is (All-head P y (filter p xs)
      (subst (λ (t : Bool). All P (cond t (y ∷ filter p xs) (filter p xs))) (ap p is ∙ pass) all))
  kept_holds (y ∷ xs) x (suc k, within, is) pass all =
      kept_holds xs x (k, omega (arith, within), is) pass (behind_kept y (filter p xs) (p y) all)

both_shut : (x : Bool) → (not x && not x) ≡ false → x ≡ true
both_shut true is = refl
both_shut false is = absurd (cc)

both_open : (x : Bool) → x ≡ false → (not x && not x) ≡ true
both_open false is = refl
both_open true is = absurd (cc)

holds_some : (a b : Bool) → a ≡ true → b ≡ true → (a && b) ≡ true
holds_some true b first later = later
holds_some false b first later = absurd (cc)

module _ (d : Disk) (before after : List Bool) (b : ℕ) (within : b < d.count) (grows : Grows before after)
    (closed : All (λ p. is_open after p ≡ false) (lone_pairs d before d.count)) where
  left_by : (t : Bool) (o : Option StoredPart) → slice_index_or before b true ≡ t → stored_part_of d (alone b) ≡ o
      → (slice_index_or after b true ≡ true) ⊎ (stored_part_of d (alone b) ≡ None)
  left_by true o marked holds = inl (grows b marked)
  left_by false None marked holds = inr holds
  left_by false (Some s) marked holds =
      let has : Contains (map alone (range_with_len 0 d.count)) (alone b) = (
        b,
        omega (arith, within, length-map-range_with_len alone 0 d.count),
        get_or-map-range_with_len alone 0 d.count b b (alone b) within (omega arith),
      ) in
      let pass : is_lone d before (alone b) ≡ true = holds_some _ _ (both_open _ marked) (ap is_some holds) in
      inl (both_shut _ (kept_holds (λ (p : Pair). is_open after p ≡ false) (is_lone d before) (map alone (range_with_len 0 d.count)) (alone b) has
      pass closed))

pub none_left : (d : Disk) (before after : List Bool) → Grows before after
    → All (λ p. is_open after p ≡ false) (lone_pairs d before d.count) → NoneIsLeft d after
none_left d before after grows closed b within = left_by d before after b within grows closed _ _ refl refl
