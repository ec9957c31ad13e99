-- The commands of rows lead to the map of the rows.
use Rattle.std.proofs.Common.{◌≡◌, ◌<◌, ◌==◌, ℕ, nat_lt, Bool, true, false, List, [], ◌∷◌, ◌++◌, Option, Some, None, All}
use Rattle.std.proofs.Common.{refl, ap, sym, ◌∙◌, subst, arith, append_assoc, append-nil, inl, inr}
use Rattle.std.specs.Prelude.{if◌then◌else◌}
use Rattle.std.specs.Option.{option_map}
use Rattle.std.proofs.lemmas.Bool.Decides.{nat_tests}
use Rattle.std.proofs.lemmas.List.Elements.{All-head, All-tail, All-cons, All-nil}
use Rattle.lfs_meta.specs.Attribute.{Attributes, put_by, set_attribute}
use Rattle.lfs_fs.specs.declared.limits.Limits.{Limits}
use Rattle.lfs_fs.specs.Formatted.{empty_volume}
use Rattle.lfs_fs.specs.Path.{Path}
use Rattle.lfs_fs.specs.Row.{path_precedes, PathsAreOrdered}
use Rattle.lfs_fs.specs.Tree.{Node, File, Dir, tree}
use Rattle.lfs_fs.specs.Volume.{Volume}
use Rattle.lfs_command.specs.Command.{Command, Mkdir, Put, SetAttr}
use Rattle.lfs_command.specs.Equation.{with_attributes, attributes_at}
use Rattle.lfs_command.specs.PathMap.{same_path, put_at_path}
use Rattle.lfs_command.specs.Planned.{CarriesOut}
use Rattle.lfs_law.proofs.PathMapLemmas.{same_path_decides, same_path_or_not, put_at_there, put_at_other}
use Rattle.lfs_law.proofs.CarriedFollow.{CarriedFollow}
use Rattle.lfs_pack.specs.Packed.{Packed, packed_node, packed_at, making, setting, row_commands, commands}
use Rattle.lfs_pack.specs.Packed.{PackedRise, KindsRise}
use Rattle.lfs_pack.specs.Lead.{Lead}
use Rattle.lfs_pack.specs.Laws.{LedToTheirMap}

if_true : {X : Type 0} (b : Bool) (x y : X) → b ≡ true → (if b then x else y) ≡ x
if_true true x y is = refl
if_true false x y is = absurd cc

-- ---- maps

-- a value put at a path over another one
put_again : (p : Path) (x y : Option Node) (old new : Path → Option Node) → ((q : Path) → new q ≡ put_at_path p y old q) → (q : Path)
    → put_at_path p x new q ≡ put_at_path p x old q
put_again p x y old new is q = elim (same_path_or_not p q) [
  | inl same ↦ subst (λ (r : Path). put_at_path p x new r ≡ put_at_path p x old r) same (put_at_there p x new ∙ sym (put_at_there p x old))
  | inr other ↦ put_at_other p x new q other ∙ is q ∙ put_at_other p y old q other ∙ sym (put_at_other p x old q other)
]

-- the same value at the same path of maps that agree
put_like : (p : Path) (x y : Option Node) (old new : Path → Option Node) → x ≡ y → ((q : Path) → new q ≡ old q) → (q : Path)
    → put_at_path p x new q ≡ put_at_path p y old q
put_like p x y old new same is q = elim (same_path_or_not p q) [
  | inl here ↦ subst (λ (r : Path). put_at_path p x new r ≡ put_at_path p y old r) here
      (put_at_there p x new ∙ same ∙ sym (put_at_there p y old))
  | inr other ↦ put_at_other p x new q other ∙ is q ∙ sym (put_at_other p y old q other)
]

-- ---- attributes

-- all kinds are less than this one
abbrev Before : Attributes → ℕ × List ℕ → Type 0
Before done a = All (λ (b : ℕ × List ℕ). b.0 < a.0) done

set_end_by : (k : ℕ) (value : List ℕ) (a : ℕ × List ℕ) (more : Attributes) (less same : Bool) → nat_lt k a.0 ≡ less → (k == a.0) ≡ same
    → a.0 < k → set_attribute k value more ≡ more ++ (k, value) ∷ []
    → (if less then (k, value) ∷ a ∷ more else (if same then (k, value) ∷ more else a ∷ set_attribute k value more))
    ≡ a ∷ more ++ (k, value) ∷ []
set_end_by k value a more true same is_less is_same lt rest = absurd (grind (arith, nat_tests))
set_end_by k value a more false true is_less is_same lt rest = absurd (grind (arith, nat_tests))
set_end_by k value a more false false is_less is_same lt rest = ap (λ (l : Attributes). a ∷ l) rest

-- the value of a kind above all others stands last
set_end : (k : ℕ) (value : List ℕ) (done : Attributes) → Before done (k, value) → set_attribute k value done ≡ done ++ (k, value) ∷ []
unfolding put_by
set_end k value [] before = refl
set_end k value (a ∷ more) before =
    set_end_by k value a more (nat_lt k a.0) (k == a.0) refl refl (All-head (λ (b : ℕ × List ℕ). b.0 < k) a more before)
    (set_end k value more (All-tail (λ (b : ℕ × List ℕ). b.0 < k) a more before))

with_packed : (f : Attributes → Attributes) (bytes : Option (List ℕ)) (a : Attributes)
    → with_attributes f (packed_node bytes a) ≡ packed_node bytes (f a)
with_packed f None a = refl
with_packed f (Some bytes) a = refl

before_more : (done : Attributes) (a b : ℕ × List ℕ) → Before done b → a.0 < b.0 → Before (done ++ a ∷ []) b
before_more [] a b before lt = All-cons (λ (c : ℕ × List ℕ). c.0 < b.0) a [] lt (All-nil (λ (c : ℕ × List ℕ). c.0 < b.0))
before_more (d ∷ done) a b before lt =
    All-cons (λ (c : ℕ × List ℕ). c.0 < b.0) d (done ++ a ∷ []) (All-head (λ (c : ℕ × List ℕ). c.0 < b.0) d done before)
    (before_more done a b (All-tail (λ (c : ℕ × List ℕ). c.0 < b.0) d done before) lt)

all_before : (done : Attributes) (a : ℕ × List ℕ) (more : Attributes) → All (Before done) more
    → All (λ (b : ℕ × List ℕ). a.0 < b.0) more → All (Before (done ++ a ∷ [])) more
all_before done a [] before less = All-nil (Before (done ++ a ∷ []))
all_before done a (b ∷ more) before less =
    All-cons (Before (done ++ a ∷ [])) b more
    (before_more done a b (All-head (Before done) b more before) (All-head (λ (c : ℕ × List ℕ). a.0 < c.0) b more less))
    (all_before done a more (All-tail (Before done) b more before) (All-tail (λ (c : ℕ × List ℕ). a.0 < c.0) b more less))

-- an attribute is set of what is at a path
set_one : CarriedFollow → (p : Path) (bytes : Option (List ℕ)) (done : Attributes) (a : ℕ × List ℕ) (v u : Volume)
    (old : Path → Option Node) → Before done a → ((q : Path) → tree v q ≡ put_at_path p (Some (packed_node bytes done)) old q)
    → CarriesOut (SetAttr p a.0 a.1) v u
    → (q : Path) → tree u q ≡ put_at_path p (Some (packed_node bytes (done ++ a ∷ []))) old q
set_one follow p bytes done a v u old before is does q =
    let here : tree v p ≡ Some (packed_node bytes done) = is p ∙ put_at_there p (Some (packed_node bytes done)) old in
    let set : option_map (with_attributes (set_attribute a.0 a.1)) (tree v p) ≡ Some (packed_node bytes (done ++ a ∷ [])) =
    ap (option_map (with_attributes (set_attribute a.0 a.1))) here ∙ ap Some (with_packed (set_attribute a.0 a.1) bytes done)
    ∙ ap (λ (l : Attributes). Some (packed_node bytes l)) (set_end a.0 a.1 done before) in
    (follow (SetAttr p a.0 a.1) v u does).at q
    ∙ put_like p (option_map (with_attributes (set_attribute a.0 a.1)) (tree v p)) (Some (packed_node bytes (done ++ a ∷ [])))
    (tree v) (tree v) set (λ r. refl) q
    ∙ put_again p (Some (packed_node bytes (done ++ a ∷ []))) (Some (packed_node bytes done)) old (tree v) is q

set_all : CarriedFollow → (p : Path) (bytes : Option (List ℕ)) (done more : Attributes) (v w : Volume) (old : Path → Option Node)
    → All (Before done) more → KindsRise more → ((q : Path) → tree v q ≡ put_at_path p (Some (packed_node bytes done)) old q)
    → Lead (setting p more) v w → (q : Path) → tree w q ≡ put_at_path p (Some (packed_node bytes (done ++ more))) old q
set_all follow p bytes done [] v w old before rise is led q =
    ap (λ (x : Volume). tree x q) led ∙ is q
    ∙ ap (λ (l : Attributes). put_at_path p (Some (packed_node bytes l)) old q) (sym (append-nil done))
set_all follow p bytes done (a ∷ more) v w old before rise is (u, does, led) q =
    set_all follow p bytes (done ++ a ∷ []) more u w old
    (all_before done a more (All-tail (Before done) a more before) rise.0) rise.1
    (set_one follow p bytes done a v u old (All-head (Before done) a more before) is does) led q
    ∙ ap (λ (l : Attributes). put_at_path p (Some (packed_node bytes l)) old q) (append_assoc done (a ∷ []) more)

-- ---- one row

-- a row's path is new; the root is there, as a directory without attributes
abbrev pub CanStand : (Path → Option Node) → Path → Option (List ℕ) → Type 0
CanStand old [] bytes = (bytes ≡ None) × (old [] ≡ Some (Dir []))
CanStand old (n ∷ p) bytes = old (n ∷ p) ≡ None

-- what is at a row's path was made
record IsMade (p : Path) (bytes : Option (List ℕ)) (old : Path → Option Node) (cs : List Command) (w : Volume) : Type 0 where
  volume : Volume
  led : Lead cs volume w
  at : (q : Path) → tree volume q ≡ put_at_path p (Some (packed_node bytes [])) old q

root_by : (old : Path → Option Node) (q : Path) → old [] ≡ Some (Dir []) → old q ≡ put_at_path [] (Some (Dir [])) old q
root_by old [] is = is
root_by old (n ∷ q) is = refl

make_one : CarriedFollow → (p : Path) (bytes : Option (List ℕ)) (most : ℕ) (cs : List Command) (v w : Volume) (old : Path → Option Node)
    → CanStand old p bytes → ((q : Path) → tree v q ≡ old q) → Lead (making p bytes most ++ cs) v w → IsMade p bytes old cs w
make_one follow [] None most cs v w old can is led = record { volume = v; led = led; at = λ q. is q ∙ root_by old q can.1 }
make_one follow [] (Some bytes) most cs v w old can is led = absurd (cc)
make_one follow (n ∷ p) None most cs v w old can is (u, does, led) = record {
  volume = u;
  led = led;
  at = λ q. (follow (Mkdir (n ∷ p)) v u does).at q ∙ put_like (n ∷ p) (Some (Dir [])) (Some (Dir [])) old (tree v) refl is q;
}
make_one follow (n ∷ p) (Some bytes) most cs v w old can is (u, does, led) = record {
  volume = u;
  led = led;
  at = λ q. (follow (Put (n ∷ p) bytes most) v u does).at q
      ∙ put_like (n ∷ p) (Some (File bytes (attributes_at (tree v (n ∷ p))))) (Some (File bytes [])) old (tree v)
      (ap (λ (x : Option Node). Some (File bytes (attributes_at x))) (is (n ∷ p) ∙ can)) is q;
}

all_before_none : (more : Attributes) → All (Before []) more
all_before_none [] = All-nil (Before [])
all_before_none (a ∷ more) = All-cons (Before []) a more (All-nil (λ (b : ℕ × List ℕ). b.0 < a.0)) (all_before_none more)

-- the map with what a row has
abbrev pub with_row : Packed → (Path → Option Node) → Path → Option Node
with_row r old = put_at_path r.path (Some (packed_node r.bytes r.attributes)) old

-- ---- all rows

-- the map with what rows have, the first one first
abbrev over : List Packed → (Path → Option Node) → Path → Option Node
over [] old q = old q
over (r ∷ rs) old q = if same_path r.path q then Some (packed_node r.bytes r.attributes) else over rs old q

over_same : (rs : List Packed) (old new : Path → Option Node) (q : Path) → new q ≡ old q → over rs new q ≡ over rs old q
over_same [] old new q same = same
over_same (r ∷ rs) old new q same =
    ap (λ (x : Option Node). if same_path r.path q then Some (packed_node r.bytes r.attributes) else x) (over_same rs old new q same)

if_not : {X : Type 0} (b : Bool) (x y : X) → (b ≡ true → ⊥) → (if b then x else y) ≡ y
if_not true x y h = absurd (h refl)
if_not false x y h = refl

-- none of the rows has the path
abbrev pub Lack : Path → List Packed → Type 0
Lack q rs = All (λ (s : Packed). s.path ≡ q → ⊥) rs

over_none : (rs : List Packed) (old : Path → Option Node) (q : Path) → Lack q rs → over rs old q ≡ old q
over_none [] old q none = refl
over_none (r ∷ rs) old q none =
    if_not (same_path r.path q) (Some (packed_node r.bytes r.attributes)) (over rs old q)
    (λ h. All-head (λ (s : Packed). s.path ≡ q → ⊥) r rs none ((same_path_decides r.path q).0 h))
    ∙ over_none rs old q (All-tail (λ (s : Packed). s.path ≡ q → ⊥) r rs none)

over_first : (r : Packed) (rs : List Packed) (old : Path → Option Node) (q : Path) → Lack r.path rs
    → over rs (with_row r old) q ≡ over (r ∷ rs) old q
over_first r rs old q lack = elim (same_path_or_not r.path q) [
  | inl same ↦ subst (λ (x : Path). over rs (with_row r old) x ≡ over (r ∷ rs) old x) same
      (over_none rs (with_row r old) r.path lack ∙ put_at_there r.path (Some (packed_node r.bytes r.attributes)) old
      ∙ sym (if_true (same_path r.path r.path) (Some (packed_node r.bytes r.attributes)) (over rs old r.path) ((same_path_decides r.path r.path).1 refl)))
  | inr other ↦ over_same rs old (with_row r old) q (put_at_other r.path (Some (packed_node r.bytes r.attributes)) old q other)
      ∙ sym (if_not (same_path r.path q) (Some (packed_node r.bytes r.attributes)) (over rs old q)
      (λ h. other ((same_path_decides r.path q).0 h)))
]

false_true : false ≡ true → ⊥
false_true h = cc

-- a path that comes before another is another
apart : PathsAreOrdered → (p q : Path) → path_precedes p q ≡ true → q ≡ p → ⊥
apart order p q first same = false_true (sym (order.irreflexive p) ∙ subst (λ (x : Path). path_precedes p x ≡ true) same first)

pub lacking : PathsAreOrdered → (p : Path) (rs : List Packed) → All (λ (s : Packed). path_precedes p s.path ≡ true) rs → Lack p rs
lacking order p [] first = All-nil (λ (s : Packed). s.path ≡ p → ⊥)
lacking order p (s ∷ rs) first =
    All-cons (λ (t : Packed). t.path ≡ p → ⊥) s rs
    (apart order p s.path (All-head (λ (t : Packed). path_precedes p t.path ≡ true) s rs first))
    (lacking order p rs (All-tail (λ (t : Packed). path_precedes p t.path ≡ true) s rs first))

-- rows that can stand on a map
abbrev pub AllCanStand : (Path → Option Node) → List Packed → Type 0
AllCanStand old rs = All (λ (s : Packed). CanStand old s.path s.bytes) rs

can_stand_like : (old new : Path → Option Node) (p : Path) (bytes : Option (List ℕ)) → new p ≡ old p → CanStand old p bytes
    → CanStand new p bytes
can_stand_like old new [] bytes same can = (can.0, same ∙ can.1)
can_stand_like old new (n ∷ p) bytes same can = same ∙ can

pub others_stand : (r : Packed) (rs : List Packed) (old : Path → Option Node) → Lack r.path rs → AllCanStand old rs
    → AllCanStand (with_row r old) rs
others_stand r [] old lack can = All-nil (λ (s : Packed). CanStand (with_row r old) s.path s.bytes)
others_stand r (s ∷ rs) old lack can =
    All-cons (λ (t : Packed). CanStand (with_row r old) t.path t.bytes) s rs
    (can_stand_like old (with_row r old) s.path s.bytes
    (put_at_other r.path (Some (packed_node r.bytes r.attributes)) old s.path
    (λ h. All-head (λ (t : Packed). t.path ≡ r.path → ⊥) s rs lack (sym h)))
    (All-head (λ (t : Packed). CanStand old t.path t.bytes) s rs can))
    (others_stand r rs old (All-tail (λ (t : Packed). t.path ≡ r.path → ⊥) s rs lack)
    (All-tail (λ (t : Packed). CanStand old t.path t.bytes) s rs can))

-- commands behind others lead on from where these lead to
pub record IsLedBy (cs ds : List Command) (v w : Volume) : Type 0 where
  pub middle : Volume
  pub first : Lead cs v middle
  pub rest : Lead ds middle w

pub split_led : (cs ds : List Command) (v w : Volume) → Lead (cs ++ ds) v w → IsLedBy cs ds v w
split_led [] ds v w led = record { middle = v; first = refl; rest = led }
split_led (c ∷ cs) ds v w (u, does, led) =
    let rest = split_led cs ds u w led in
    record { middle = rest.middle; first = (u, does, rest.first); rest = rest.rest }

pub row_led : CarriedFollow → (r : Packed) (v w : Volume) (old : Path → Option Node) → CanStand old r.path r.bytes
    → KindsRise r.attributes → ((q : Path) → tree v q ≡ old q) → Lead (row_commands r) v w → (q : Path) → tree w q ≡ with_row r old q
row_led follow r v w old can kinds is led =
    let made = make_one follow r.path r.bytes r.most (setting r.path r.attributes) v w old can is led in
    set_all follow r.path r.bytes [] r.attributes made.volume w old (all_before_none r.attributes) kinds made.at made.led

rows_led : CarriedFollow → PathsAreOrdered → (rs : List Packed) (v w : Volume) (old : Path → Option Node) → AllCanStand old rs → PackedRise rs
    → All (λ (r : Packed). KindsRise r.attributes) rs → ((q : Path) → tree v q ≡ old q) → Lead (commands rs) v w
    → (q : Path) → tree w q ≡ over rs old q
rows_led follow order [] v w old can rise kinds is led q = ap (λ (x : Volume). tree x q) led ∙ is q
rows_led follow order (r ∷ rs) v w old can rise kinds is led q =
    let parts = split_led (row_commands r) (commands rs) v w led in
    let lack = lacking order r.path rs rise.0 in
    rows_led follow order rs parts.middle w (with_row r old)
    (others_stand r rs old lack (All-tail (λ (s : Packed). CanStand old s.path s.bytes) r rs can)) rise.1
    (All-tail (λ (s : Packed). KindsRise s.attributes) r rs kinds)
    (row_led follow r v parts.middle old (All-head (λ (s : Packed). CanStand old s.path s.bytes) r rs can)
    (All-head (λ (s : Packed). KindsRise s.attributes) r rs kinds) is parts.first)
    parts.rest q
    ∙ over_first r rs old q lack

-- ---- from a new volume

new_tree : (size count : ℕ) (limits : Limits) (n : List ℕ) (p : Path) → tree (empty_volume size count limits []) (n ∷ p) ≡ None
new_tree size count limits n [] = refl
new_tree size count limits n (m ∷ p) = new_tree size count limits m p

new_stands : (size count : ℕ) (limits : Limits) (p : Path) (bytes : Option (List ℕ)) → path_precedes [] p ≡ true
    → CanStand (tree (empty_volume size count limits [])) p bytes
new_stands size count limits [] bytes first = absurd (false_true first)
new_stands size count limits (n ∷ p) bytes first = new_tree size count limits n p

pub all_new_stand : (size count : ℕ) (limits : Limits) (rs : List Packed) → All (λ (s : Packed). path_precedes [] s.path ≡ true) rs
    → AllCanStand (tree (empty_volume size count limits [])) rs
all_new_stand size count limits [] first = All-nil (λ (s : Packed). CanStand (tree (empty_volume size count limits [])) s.path s.bytes)
all_new_stand size count limits (s ∷ rs) first =
    All-cons (λ (t : Packed). CanStand (tree (empty_volume size count limits [])) t.path t.bytes) s rs
    (new_stands size count limits s.path s.bytes (All-head (λ (t : Packed). path_precedes [] t.path ≡ true) s rs first))
    (all_new_stand size count limits rs (All-tail (λ (t : Packed). path_precedes [] t.path ≡ true) s rs first))

-- over a map that has nothing but the root, the rows are their map
over_new : (rs : List Packed) (old : Path → Option Node) (q : Path) → old q ≡ None → over rs old q ≡ packed_at rs q
over_new [] old q none = none
over_new (r ∷ rs) old q none =
    ap (λ (x : Option Node). if same_path r.path q then Some (packed_node r.bytes r.attributes) else x) (over_new rs old q none)

over_formatted : (size count : ℕ) (limits : Limits) (r : Packed) (rs : List Packed) (q : Path) → r.path ≡ []
    → over (r ∷ rs) (tree (empty_volume size count limits [])) q ≡ packed_at (r ∷ rs) q
over_formatted size count limits r rs [] root =
    if_true (same_path r.path []) (Some (packed_node r.bytes r.attributes)) (over rs (tree (empty_volume size count limits [])) [])
    ((same_path_decides r.path []).1 root)
    ∙ sym (if_true (same_path r.path []) (Some (packed_node r.bytes r.attributes)) (packed_at rs []) ((same_path_decides r.path []).1 root))
over_formatted size count limits r rs (n ∷ q) root = over_new (r ∷ rs) (tree (empty_volume size count limits [])) (n ∷ q) (new_tree size count limits n q)

pub root_stands : (size count : ℕ) (limits : Limits) (p : Path) (bytes : Option (List ℕ)) → p ≡ [] → bytes ≡ None
    → CanStand (tree (empty_volume size count limits [])) p bytes
root_stands size count limits [] bytes root none = (none, refl)
root_stands size count limits (n ∷ p) bytes root none = absurd (cc)

pub led_to_their_map : CarriedFollow → PathsAreOrdered → LedToTheirMap
led_to_their_map follow order size count limits [] v packable led q = absurd packable.root
led_to_their_map follow order size count limits (r ∷ rs) v packable led q =
    let later = subst (λ (p : Path). All (λ (s : Packed). path_precedes p s.path ≡ true) rs) packable.root.0 packable.rise.0 in
    rows_led follow order (r ∷ rs) (empty_volume size count limits []) v (tree (empty_volume size count limits []))
    (All-cons (λ (s : Packed). CanStand (tree (empty_volume size count limits [])) s.path s.bytes) r rs
    (root_stands size count limits r.path r.bytes packable.root.0 packable.root.1) (all_new_stand size count limits rs later))
    packable.rise packable.kinds (λ p. refl) led q
    ∙ over_formatted size count limits r rs q packable.root.0
