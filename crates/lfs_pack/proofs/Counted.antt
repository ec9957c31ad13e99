-- Commands on a volume that has fewer blocks: what they leave is the same, with as many blocks.
use Rattle.std.proofs.Common.{◌≡◌, ◌+◌, ◌<◌, ◌≤◌, ◌==◌, ℕ, suc, zero, Bool, true, false, List, [], ◌∷◌, ◌++◌, length, take, refl, ap, sym, ◌∙◌, subst, arith}
use Rattle.std.proofs.Common.{Option, Some, None}
use Rattle.std.specs.Prelude.{All, if◌then◌else◌, sum_by}
use Rattle.std.specs.List.{AllByRecursion, filter, range_with_len}
use Rattle.std.specs.Option.{option_or}
use Rattle.std.proofs.lemmas.List.Elements.{All-head, All-tail, All-weaker}
use Rattle.lfs_meta.specs.Attribute.{Attributes, remove_attribute, set_attribute}
use Rattle.lfs_meta.specs.Body.{Pair}
use Rattle.lfs_meta.specs.Name.{Name}
use Rattle.lfs_fs.specs.Directory.{thread}
use Rattle.lfs_fs.specs.Entry.{Body, Entry}
use Rattle.lfs_fs.specs.Free.{free_blocks}
use Rattle.lfs_fs.specs.Tree.{entry_at}
use Rattle.lfs_fs.specs.Uses.{uses}
use Rattle.lfs_fs.specs.Volume.{Volume}
use Rattle.lfs_command.specs.Clean.{clean}
use Rattle.lfs_command.specs.Command.{Command, Mkdir, Put, Rm, Mv, SetAttr, RmAttr, Grow}
use Rattle.lfs_command.specs.Cut.{HasEnough, cut}
use Rattle.lfs_command.specs.Edited.{edited, make_directory, move_entry, put_file, remove_entry, set_attributes}
use Rattle.lfs_command.specs.Growth.{grown}
use Rattle.lfs_command.specs.Parent.{parent_of}
use Rattle.lfs_command.specs.Leading.{leading_pair}
use Rattle.lfs_command.specs.Need.{data_blocks, directory_blocks, dirty_parts, need, part_blocks}
use Rattle.lfs_command.specs.Ordered.{blocks_chosen, blocks_made, leader, overflowing_led}
use Rattle.lfs_command.specs.Planned.{CarriesOut}
use Rattle.lfs_command.specs.Supplies.{Supplies, new_body, nothing}
use Rattle.lfs_law.specs.Lengthened.{with_count}
use Rattle.lfs_law.proofs.CarriedFollow.{CarriedFollow}
use Rattle.lfs_law.proofs.FrugalPlans.{enough_free}
use Rattle.lfs_law.proofs.OneWay.{IsLeftBy, left_by, one_left}
use Rattle.lfs_pack.specs.Lead.{Lead}
use Rattle.lfs_pack.proofs.CountsKept.{KeepsCount}

-- ---- a command that leaves the count

make_counted : (m : ℕ) (v : Volume) (pair : Pair) (h : Option (Pair × Name))
    → make_directory (with_count m v) pair h ≡ with_count m (make_directory v pair h)
make_counted m v pair None = refl
make_counted m v pair (Some h) = refl

put_counted : (m : ℕ) (v : Volume) (b : Body) (h : Option (Pair × Name)) (old : Option Entry)
    → put_file (with_count m v) b h old ≡ with_count m (put_file v b h old)
put_counted m v b None old = refl
put_counted m v b (Some h) None = refl
put_counted m v b (Some h) (Some e) = refl

remove_counted : (m : ℕ) (v : Volume) (h : Option (Pair × Name)) (old : Option Entry)
    → remove_entry (with_count m v) h old ≡ with_count m (remove_entry v h old)
remove_counted m v None old = refl
remove_counted m v (Some h) None = refl
remove_counted m v (Some h) (Some e) = refl

move_counted : (m : ℕ) (v : Volume) (h g : Option (Pair × Name)) (old : Option Entry)
    → move_entry (with_count m v) h g old ≡ with_count m (move_entry v h g old)
move_counted m v None g old = refl
move_counted m v (Some h) None old = refl
move_counted m v (Some h) (Some g) None = refl
move_counted m v (Some h) (Some g) (Some e) = refl

set_counted : (m : ℕ) (v : Volume) (f : Attributes → Attributes) (h : Option (Pair × Name))
    → set_attributes (with_count m v) f h ≡ with_count m (set_attributes v f h)
set_counted m v f None = refl
set_counted m v f (Some h) = refl

pub edited_counted : (m : ℕ) (v : Volume) (c : Command) (s : Supplies) → KeepsCount c
    → edited (with_count m v) c s ≡ with_count m (edited v c s)
unfolding KeepsCount
edited_counted m v (Mkdir p) s keeps = make_counted m v s.pair (parent_of v p)
edited_counted m v (Put p bytes most) s keeps = put_counted m v (new_body v s bytes most) (parent_of v p) (entry_at v p)
edited_counted m v (Rm p) s keeps = remove_counted m v (parent_of v p) (entry_at v p)
edited_counted m v (Mv p q) s keeps = move_counted m v (parent_of v p) (parent_of v q) (entry_at v p)
edited_counted m v (SetAttr p k value) s keeps = set_counted m v (set_attribute k value) (parent_of v p)
edited_counted m v (RmAttr p k) s keeps = set_counted m v (remove_attribute k) (parent_of v p)
edited_counted m v (Grow n) s keeps = let one : n ≡ 0 = keeps 0 in let two : n ≡ 1 = keeps 1 in absurd (omega (arith, one, two))

data_counted : (m : ℕ) (v : Volume) (c : Command) → data_blocks (with_count m v) c ≡ data_blocks v c
data_counted m v (Mkdir p) = refl
data_counted m v (Put p bytes most) = refl
data_counted m v (Rm p) = refl
data_counted m v (Mv p q) = refl
data_counted m v (SetAttr p k value) = refl
data_counted m v (RmAttr p k) = refl
data_counted m v (Grow n) = refl

pub need_counted : (m : ℕ) (v : Volume) (c : Command) → KeepsCount c → need (with_count m v) c ≡ need v c
need_counted m v c keeps =
    ap (λ (x : Volume). data_blocks (with_count m v) c + directory_blocks c + sum_by (part_blocks x) (dirty_parts x))
    (edited_counted m v c nothing keeps)
    ∙ ap (λ (n : ℕ). n + directory_blocks c + sum_by (part_blocks (edited v c nothing)) (dirty_parts (edited v c nothing)))
    (data_counted m v c)

made_counted : (m : ℕ) (v : Volume) (c : Command) (s : Supplies) → blocks_made (with_count m v) c s ≡ blocks_made v c s
made_counted m v (Mkdir p) s = refl
made_counted m v (Put p bytes most) s = refl
made_counted m v (Rm p) s = refl
made_counted m v (Mv p q) s = refl
made_counted m v (SetAttr p k value) s = refl
made_counted m v (RmAttr p k) s = refl
made_counted m v (Grow n) s = refl

-- ---- the least free blocks of fewer blocks

front_free : (t : ℕ → Bool) (from m n k : ℕ) → m ≤ n → k ≤ length (filter t (range_with_len from m))
    → take k (filter t (range_with_len from n)) ≡ take k (filter t (range_with_len from m))
front_free t from zero n k le many = let none : k ≡ 0 = omega (arith, many) in rw none refl
front_free t from (suc m) zero k le many = absurd (omega (arith, le))
front_free t from (suc m) (suc n) k le many =
    by (t from) k many (λ j some. front_free t (from + 1) m n j (omega (arith, le)) some)
  where
    by : (b : Bool) (k : ℕ) → k ≤ length (if b then from ∷ filter t (range_with_len (from + 1) m) else filter t (range_with_len (from + 1) m))
        → ((j : ℕ) → j ≤ length (filter t (range_with_len (from + 1) m))
        → take j (filter t (range_with_len (from + 1) n)) ≡ take j (filter t (range_with_len (from + 1) m)))
        → take k (if b then from ∷ filter t (range_with_len (from + 1) n) else filter t (range_with_len (from + 1) n))
        ≡ take k (if b then from ∷ filter t (range_with_len (from + 1) m) else filter t (range_with_len (from + 1) m))
    by true zero some rest = refl
    by true (suc j) some rest = ap (λ (xs : List ℕ). from ∷ xs) (rest j (omega (arith, some)))
    by false k some rest = rest k some

-- where the first of them lie in the front, there are as many of them
many_free : (t : ℕ → Bool) (from m n k : ℕ) → m ≤ n → k ≤ length (filter t (range_with_len from n))
    → All (λ b. b < from + m) (take k (filter t (range_with_len from n))) → k ≤ length (filter t (range_with_len from m))
many_free t from zero zero k le some below = some
many_free t from (suc m) zero k le some below = absurd (omega (arith, le))
many_free t from zero (suc n) k le some below =
    by (t from) k some below (λ many less. many_free t (from + 1) zero n k (omega arith) many less)
  where
    by : (b : Bool) (k : ℕ) → k ≤ length (if b then from ∷ filter t (range_with_len (from + 1) n) else filter t (range_with_len (from + 1) n))
        → All (λ b. b < from + 0) (take k (if b then from ∷ filter t (range_with_len (from + 1) n) else filter t (range_with_len (from + 1) n)))
        → (k ≤ length (filter t (range_with_len (from + 1) n))
        → All (λ b. b < from + 1 + 0) (take k (filter t (range_with_len (from + 1) n))) → k ≤ 0)
        → k ≤ 0
    by true zero many less rest = omega arith
    by true (suc j) many less rest =
        let first : from < from + 0 = All-head (λ b. b < from + 0) from (take j (filter t (range_with_len (from + 1) n))) less in
        absurd (omega (arith, first))
    by false k many less rest =
        rest many (All-weaker (λ b. b < from + 0) (λ b. b < from + 1 + 0) (λ b lt. omega (arith, lt))
        (take k (filter t (range_with_len (from + 1) n))) less)
many_free t from (suc m) (suc n) k le some below =
    by (t from) k some below (λ j many less. many_free t (from + 1) m n j (omega (arith, le)) many less)
  where
    by : (b : Bool) (k : ℕ) → k ≤ length (if b then from ∷ filter t (range_with_len (from + 1) n) else filter t (range_with_len (from + 1) n))
        → All (λ b. b < from + suc m)
        (take k (if b then from ∷ filter t (range_with_len (from + 1) n) else filter t (range_with_len (from + 1) n)))
        → ((j : ℕ) → j ≤ length (filter t (range_with_len (from + 1) n))
        → All (λ b. b < from + 1 + m) (take j (filter t (range_with_len (from + 1) n))) → j ≤ length (filter t (range_with_len (from + 1) m)))
        → k ≤ length (if b then from ∷ filter t (range_with_len (from + 1) m) else filter t (range_with_len (from + 1) m))
    by true zero many less rest = omega arith
    by true (suc j) many less rest =
        let later = All-weaker (λ b. b < from + suc m) (λ b. b < from + 1 + m) (λ b lt. omega (arith, lt))
        (take j (filter t (range_with_len (from + 1) n)))
        (All-tail (λ b. b < from + suc m) from (take j (filter t (range_with_len (from + 1) n))) less) in
        let fewer = rest j (omega (arith, many)) later in
        omega (arith, fewer)
    by false k many less rest =
        rest k many (All-weaker (λ b. b < from + suc m) (λ b. b < from + 1 + m) (λ b lt. omega (arith, lt))
        (take k (filter t (range_with_len (from + 1) n))) less)

-- ---- of volumes

pub front_taken : (m : ℕ) (v : Volume) (k : ℕ) → m ≤ v.count → k ≤ length (free_blocks (with_count m v))
    → take k (free_blocks (with_count m v)) ≡ take k (free_blocks v)
front_taken m v k le many = sym (front_free (λ b. uses b v == 0) 0 m v.count k le many)

pub many_left : (m : ℕ) (v : Volume) (k : ℕ) → m ≤ v.count → k ≤ length (free_blocks v)
    → All (λ b. b < m) (take k (free_blocks v)) → k ≤ length (free_blocks (with_count m v))
many_left m v k le some below =
    many_free (λ b. uses b v == 0) 0 m v.count k le some
    (All-weaker (λ (b : ℕ). b < m) (λ (b : ℕ). b < 0 + m) (λ b lt. omega (arith, lt)) (take k (free_blocks v)) below)

-- a command on a volume with fewer blocks leaves what it leaves on the volume
one_counted : (m : ℕ) (v : Volume) (c : Command) (w u : Volume) → KeepsCount c → m ≤ v.count → CarriesOut c v w
    → CarriesOut c (with_count m v) u → u ≡ with_count m w
unfolding KeepsCount
one_counted m v c w u keeps le one other =
    other.is ∙ ap (λ (x : Volume). clean (cut other.chosen x)) (edited_counted m v c s keeps)
    ∙ ap (with_count m) (one_left v c (take (need v c) (free_blocks v)) w left here there)
  where
    s : Supplies
    s = other.supplies

    left : Volume
    left = clean (cut other.chosen (edited v c s))

    here : IsLeftBy v c (take (need v c) (free_blocks v)) w
    here = subst (λ (n : ℕ). IsLeftBy v c (take (need v c) (free_blocks (with_count n v))) w) (keeps v.count) (left_by v c w one)

    enough : need v c ≤ length (free_blocks (with_count m v))
    enough = omega (
      arith,
      need_counted m v c keeps,
      enough_free (with_count m v) c other.accepted.unrefused,
      ap (λ (n : ℕ). length (free_blocks (with_count n v))) (keeps m),
    )

    taken : take (need (with_count m v) c) (free_blocks (grown c (with_count m v))) ≡ take (need v c) (free_blocks v)
    taken =
        ap (λ (k : ℕ). take k (free_blocks (grown c (with_count m v)))) (need_counted m v c keeps)
        ∙ ap (λ (n : ℕ). take (need v c) (free_blocks (with_count n v))) (keeps m)
        ∙ front_taken m v (need v c) le enough

    there : IsLeftBy v c (take (need v c) (free_blocks v)) left
    there = record {
      supplies = s;
      chosen = other.chosen;
      blocks = other.blocks ∙ data_counted m v c;
      enough = subst (λ (x : Volume). All (HasEnough other.chosen x) (thread x.directories)) (edited_counted m v c s keeps)
          other.pairs.enough;
      ordered = ap (λ (bs : List ℕ). bs ++ blocks_chosen other.chosen (overflowing_led (leader v c s) (edited v c s)))
          (sym (made_counted m v c s))
          ∙ ap (λ (x : Volume). blocks_made (with_count m v) c s
          ++ blocks_chosen other.chosen (overflowing_led (option_or (leading_pair v c) (leading_pair x c)) x))
          (sym (edited_counted m v c s keeps))
          ∙ other.ordered ∙ taken;
      is = refl;
    }

-- and so do commands one after another
pub lead_counted : CarriedFollow → (m : ℕ) (cs : List Command) (v w u : Volume) → AllByRecursion KeepsCount cs → m ≤ v.count
    → Lead cs v w → Lead cs (with_count m v) u → u ≡ with_count m w
unfolding KeepsCount
lead_counted follow m [] v w u keep le one other = other ∙ ap (with_count m) (sym one)
lead_counted follow m (c ∷ cs) v w u keep le (x, does, led) (y, does', led') =
    let same : y ≡ with_count m x = one_counted m v c x y keep.0 le does does' in
    let still : m ≤ x.count = omega (arith, le, (follow c v x does).count, keep.0 v.count) in
    lead_counted follow m cs x w u keep.1 still led (subst (λ (z : Volume). Lead cs z u) same led')
