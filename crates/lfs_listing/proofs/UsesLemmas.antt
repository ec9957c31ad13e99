-- The blocks without a user are those that nothing uses.
use Rattle.std.proofs.Common.{◌≡◌, ℕ, ◌+◌, ◌≤◌, ◌==◌, ◌||◌, ◌++◌, Bool, true, false, List, [], ◌∷◌, Option, Some, None, cond, flat_map, length, map, refl, ap, sym, subst, ◌∙◌}
use Rattle.std.proofs.Common.{arith, inl, inr, zero, suc}
use Rattle.std.specs.Prelude.{◌↔◌, count_by, find, is_none, slice_get, sum_by}
use Rattle.std.specs.List.{Contains, list_any, position_from, range_with_len}
use Rattle.std.proofs.lemmas.Bool.{cases_lt}
use Rattle.std.proofs.lemmas.Bool.Decides.{nat_tests}
use Rattle.std.proofs.lemmas.Option.{none-some, same_Some, slice_get-get_or, slice_get_within, get_or_from_slice_get}
use Rattle.std.proofs.lemmas.List.Elements.{All-contains}
use Rattle.std.proofs.lemmas.List.Sums.{length-filter, sum_by-append, sum_by-cons}
use Rattle.lfs_meta.specs.Body.{Pair}
use Rattle.lfs_block.specs.Disk.{Disk}
use Rattle.lfs_fs.specs.Directory.{Directory, Part, begins_at, entries, key, parts}
use Rattle.lfs_fs.specs.Entry.{Body, Inline, Chain, Directory_at, Entry, body_target, target}
use Rattle.lfs_fs.specs.Mounted.{MountedValue, IsMountOf}
use Rattle.lfs_fs.specs.Pair.{root, unordered}
use Rattle.lfs_fs.specs.Path.{Path}
use Rattle.lfs_fs.specs.Row.{AreRows, Row}
use Rattle.lfs_fs.specs.Sound.{IsSound, Rise}
use Rattle.lfs_fs.specs.Tree.{Reached, entry_at, top}
use Rattle.lfs_fs.specs.Uses.{body_uses, directory_uses, entry_uses, pair_uses, times, uses}
use Rattle.lfs_fs.specs.Volume.{Volume}
use Rattle.lfs_fs.proofs.CountLemmas.{element_le}
use Rattle.lfs_fs.proofs.EntryAtLemmas.{entry_below, found, named_finds, stands_below}
use Rattle.lfs_fs.proofs.OrderedEndLemmas.{last_name}
use Rattle.lfs_fs.proofs.OutlinedLemmas.{outlined_uses}
use Rattle.lfs_fs.proofs.PairLemmas.{same_pair-is, same_pair-refl}
use Rattle.lfs_fs.specs.SoundOutlines.{OutlinesAreSound}
use Rattle.lfs_listing.specs.BlockMap.{body_blocks, blocks_of_directory, has_block, blocks_of_part, user}
use Rattle.lfs_listing.specs.BlockUses.{UntakenAreFree, UsersAreUses}
use Rattle.lfs_listing.proofs.BlockMapLemmas.{user_found}
use Rattle.lfs_listing.proofs.DirectoryLemmas.{fails, same_at}

-- ---- lists

any_by : (t u : Bool) (n : ℕ) → t || u ≡ true → (u ≡ true → 1 ≤ n) → 1 ≤ cond t 1 0 + n
any_by true u n is rest = omega arith
any_by false u n is rest = omega (arith, rest is)

any_times : (b : ℕ) (xs : List ℕ) → list_any (λ x. x == b) xs ≡ true → 1 ≤ times b xs
any_times b [] is = absurd (let bad : false ≡ true = is in cc)
any_times b (x ∷ xs) is = omega (
  arith,
  any_by (x == b) (list_any (λ y. y == b) xs) (times b xs) is (any_times b xs),
  sum_by-cons (λ (y : ℕ). cond {A = ℕ} (y == b) 1 0) x xs,
)

times_by : (t u : Bool) (n : ℕ) → 1 ≤ cond t 1 0 + n → (1 ≤ n → u ≡ true) → t || u ≡ true
times_by true u n some' rest = refl
times_by false u n some' rest = rest (omega arith)

times_any : (b : ℕ) (xs : List ℕ) → 1 ≤ times b xs → list_any (λ x. x == b) xs ≡ true
times_any b [] some' = absurd (omega arith)
times_any b (x ∷ xs) some' = times_by (x == b) (list_any (λ y. y == b) xs) (times b xs)
    (omega (arith, some', sum_by-cons (λ (y : ℕ). cond {A = ℕ} (y == b) 1 0) x xs)) (times_any b xs)

sum_some : {X : Type 0} (f : X → ℕ) (xs : List X) → 1 ≤ sum_by f xs → (x : X) × Contains xs x × (1 ≤ f x)
sum_some f [] some' = absurd (omega arith)
sum_some f (x ∷ xs) some' = elim (cases_lt 0 (f x)) [
  | inl here ↦ (x, (0, omega arith, refl), omega arith)
  | inr none ↦
      let rest = sum_some f xs (omega (arith, some', none, sum_by-cons f x xs)) in
      (rest.0, (suc rest.1.0, omega (arith, rest.1.1), rest.1.2), rest.2)
]

-- the blocks of parts
pair_times : (b : ℕ) (ps : List Part) → times b (flat_map blocks_of_part ps) ≡ sum_by (pair_uses b) ps
pair_times b [] = refl
pair_times b (p ∷ ps) = omega (
  arith,
  sum_by-append (λ (y : ℕ). cond {A = ℕ} (y == b) 1 0) (blocks_of_part p) (flat_map blocks_of_part ps),
  pair_times b ps,
  sum_by-cons (pair_uses b) p ps,
)

-- ---- a sound volume finds each directory

at_of : {X : Type 0} (xs : List X) (x : X) (h : Contains xs x) → slice_get xs h.0 ≡ Some x
at_of xs x h = slice_get-get_or xs h.0 x h.1 ∙ ap (λ y. Some y) h.2

finds_by : (v : Volume) → IsSound v → (d : Directory) → Contains v.directories d → (o : Option Directory)
    → find (begins_at (key d)) v.directories ≡ o → o ≡ Some d
finds_by v sound d there None is =
    let no : begins_at (key d) d ≡ false = fails (begins_at (key d)) v.directories d is there in
    let yes : begins_at (key d) d ≡ true = same_pair-refl (key d) in
    absurd (let bad : true ≡ false = sym yes ∙ no in cc)
finds_by v sound d there (Some e) is =
    let here = found (begins_at (key d)) v.directories e is in
    let same : key d ≡ key e = same_pair-is (key d) (key e) here.1 in
    ap (λ (c : Directory). Some c)
    (same_at v sound here.0.0 there.0 e d (at_of v.directories e here.0) (at_of v.directories d there) (ap (λ (k : Pair). k.0) (sym same)))

finds_itself : (v : Volume) → IsSound v → (d : Directory) → Contains v.directories d → find (begins_at (key d)) v.directories ≡ Some d
finds_itself v sound d there = finds_by v sound d there (find (begins_at (key d)) v.directories) refl

-- ---- what is used has a user

body_of : (body : Body) (k : Pair) → body_target body ≡ Some k → (pair : Pair) × (body ≡ Directory_at pair) × (unordered pair ≡ k)
body_of (Inline bytes) k is = absurd (none-some k is)
body_of (Chain blocks bytes) k is = absurd (none-some k is)
body_of (Directory_at pair) k is = (pair, refl, same_Some (unordered pair) k is)

chain_has : (ds : List Directory) (b : ℕ) (body : Body) → 1 ≤ body_uses b body → list_any (λ x. x == b) (body_blocks ds body) ≡ true
chain_has ds b (Inline bytes) some' = absurd (omega arith)
chain_has ds b (Chain blocks bytes) some' = times_any b blocks some'
chain_has ds b (Directory_at pair) some' = absurd (omega arith)

-- a row that has a block
abbrev HasRow : Volume → List Row → ℕ → Type 0
HasRow v rows b = (r : Row) × Contains rows r × (has_block v.directories b r ≡ true)

by_pair : (v : Volume) → IsSound v → (rows : List Row) → AreRows (entry_at v) rows → (b : ℕ) (d : Directory) → Contains v.directories d
    → Reached v (key d) → 1 ≤ sum_by (pair_uses b) (parts d) → HasRow v rows b
by_pair v sound rows are b d there (p, e, at, leads) some' =
    let body = body_of e.body (key d) leads in
    let blocks : body_blocks v.directories e.body ≡ flat_map blocks_of_part (parts d) =
    ap (body_blocks v.directories) body.1 ∙ ap (λ (k : Pair). blocks_of_directory (find (begins_at k) v.directories)) body.2
    ∙ ap blocks_of_directory (finds_itself v sound d there) in (
      record { path = p; entry = e },
      are.complete p e at,
      ap (list_any (λ x. x == b)) blocks ∙ times_any b (flat_map blocks_of_part (parts d)) (omega (arith, some', pair_times b (parts d))),
    )

by_entry : (v : Volume) → IsSound v → (rows : List Row) → AreRows (entry_at v) rows → (b : ℕ) (d : Directory) → Contains v.directories d
    → Reached v (key d) → 1 ≤ sum_by (entry_uses b) (entries d) → HasRow v rows b
by_entry v sound rows are b d there (p, e, at, leads) some' =
    let f = sum_some (entry_uses b) (entries d) some' in
    let rise : Rise (entries d) = All-contains (λ (c : Directory). Rise (entries c)) v.directories d sound.order there in
    let below : entry_at v (p ++ f.0.name ∷ []) ≡ Some f.0 =
    entry_below v p f.0.name e (key d) d at leads (finds_itself v sound d there) ∙ named_finds (entries d) f.0 rise f.1 in
    (record { path = p ++ f.0.name ∷ []; entry = f.0 }, are.complete (p ++ f.0.name ∷ []) f.0 below, chain_has v.directories b f.0.body f.2)

used_has : (v : Volume) → IsSound v → (rows : List Row) → AreRows (entry_at v) rows → (b : ℕ) → 1 ≤ uses b v → HasRow v rows b
used_has v sound rows are b some' =
    let d = sum_some (directory_uses b) v.directories some' in
    let reached : Reached v (key d.0) = All-contains (λ (c : Directory). Reached v (key c)) v.directories d.0 sound.reached d.1 in
    elim (cases_lt 0 (sum_by (pair_uses b) (parts d.0))) [
      | inl pairs ↦ by_pair v sound rows are b d.0 d.1 reached (omega arith)
      | inr none ↦ by_entry v sound rows are b d.0 d.1 reached (omega (arith, d.2, none))
    ]

-- ---- what has a user is used

directory_le : (v : Volume) (b : ℕ) (d : Directory) → Contains v.directories d → directory_uses b d ≤ uses b v
directory_le v b d there = element_le (directory_uses b) v.directories d there

at_directory : (v : Volume) (b : ℕ) (pair : Pair) (o : Option Directory) → find (begins_at (unordered pair)) v.directories ≡ o
    → list_any (λ x. x == b) (blocks_of_directory o) ≡ true → 1 ≤ uses b v
at_directory v b pair None is has = absurd (let bad : false ≡ true = has in cc)
at_directory v b pair (Some d) is has =
    let here = found (begins_at (unordered pair)) v.directories d is in
    omega (arith, any_times b (flat_map blocks_of_part (parts d)) has, pair_times b (parts d), directory_le v b d here.0)

at_chain : (v : Volume) (b : ℕ) (path : Path) (e : Entry) (blocks bytes : List ℕ) → e.body ≡ Chain blocks bytes → entry_at v path ≡ Some e
    → 1 ≤ times b blocks → 1 ≤ uses b v
at_chain v b path e blocks bytes is at some' = elim (last_name path) [
  | inl top' ↦
      let same : top v ≡ e = same_Some (top v) e (sym (ap (entry_at v) top') ∙ at) in
      let bad : None ≡ Some root = ap body_target (sym is) ∙ ap target (sym same) in
      absurd (none-some root bad)
  | inr (q, n, split) ↦
      let below = stands_below v q n e (sym (ap (entry_at v) split) ∙ at) in
      let here = found (begins_at below.pair) v.directories below.directory below.begins in
      let one : entry_uses b e ≡ times b blocks = ap (body_uses b) is in
      omega (
        arith,
        some',
        one,
        element_le (entry_uses b) (entries below.directory) e below.member,
        directory_le v b below.directory here.0,
      )
]

at_body : (v : Volume) (b : ℕ) (path : Path) (e : Entry) (body : Body) → e.body ≡ body → entry_at v path ≡ Some e
    → list_any (λ x. x == b) (body_blocks v.directories body) ≡ true → 1 ≤ uses b v
at_body v b path e (Inline bytes) is at has = absurd (let bad : false ≡ true = has in cc)
at_body v b path e (Chain blocks bytes) is at has = at_chain v b path e blocks bytes is at (any_times b blocks has)
at_body v b path e (Directory_at pair) is at has = at_directory v b pair (find (begins_at (unordered pair)) v.directories) refl has

-- ---- users

none_by : (t : Bool) (p : Row → Bool) (n : ℕ) (r : Row) (rs : List Row) → p r ≡ t → cond t (Some n) (position_from p (n + 1) rs) ≡ None
    → (p r ≡ false) × (position_from p (n + 1) rs ≡ None)
none_by true p n r rs is none = absurd (none-some n (sym none))
none_by false p n r rs is none = (is, none)

none_from : (p : Row → Bool) (n : ℕ) (rows : List Row) (r : Row) → position_from p n rows ≡ None → Contains rows r → p r ≡ false
none_from p n [] r none there = absurd (omega (arith, there.1))
none_from p n (x ∷ rows) r none (zero, within, is) = ap p (sym is) ∙ (none_by (p x) p n x rows refl none).0
none_from p n (x ∷ rows) r none (suc k, within, is) =
    none_from p (n + 1) rows r (none_by (p x) p n x rows refl none).1 (k, omega arith, is)

unused : (v : Volume) → IsSound v → (rows : List Row) → AreRows (entry_at v) rows → (b : ℕ) → user v rows b ≡ None → uses b v ≡ 0
unused v sound rows are b none = elim (cases_lt 0 (uses b v)) [
  | inl used ↦
      let has = used_has v sound rows are b (omega arith) in
      let no : has_block v.directories b has.0 ≡ false = none_from (has_block v.directories b) 0 rows has.0 none has.1 in
      absurd (let bad : true ≡ false = sym has.2 ∙ no in cc)
  | inr zero' ↦ omega arith
]

unuser_by : (v : Volume) (rows : List Row) → AreRows (entry_at v) rows → (b : ℕ) (o : Option ℕ) → user v rows b ≡ o → uses b v ≡ 0 → o ≡ None
unuser_by v rows are b None is none = refl
unuser_by v rows are b (Some k) is none =
    let x = user_found v rows b k is in
    let there : Contains rows x.0 = (k, slice_get_within rows k x.0 x.1, get_or_from_slice_get rows k x.0 x.0 x.1) in
    let at : entry_at v x.0.path ≡ Some x.0.entry =
    All-contains (λ (r : Row). entry_at v r.path ≡ Some r.entry) rows x.0 are.right there in
    absurd (omega (arith, none, at_body v b x.0.path x.0.entry x.0.entry.body refl at x.2))

both_ways : (v : Volume) → IsSound v → (rows : List Row) → AreRows (entry_at v) rows → (b : ℕ) → (user v rows b ≡ None) ↔ (uses b v ≡ 0)
both_ways v sound rows are b = (unused v sound rows are b, λ none. unuser_by v rows are b (user v rows b) refl none)

-- the outline of a mounted image is sound
sound_of : OutlinesAreSound → (d : Disk) (m : MountedValue) → IsMountOf d m → IsSound m.outline
sound_of sound d m is = subst IsSound (sym is.outline) (sound is.volume is.sound)

uses_of : (d : Disk) (m : MountedValue) (is : IsMountOf d m) (b : ℕ) → uses b m.outline ≡ uses b is.volume
uses_of d m is b = ap (uses b) is.outline ∙ outlined_uses b is.volume

pub users_are_uses : OutlinesAreSound → UsersAreUses
users_are_uses sound d m is b =
    let both = both_ways m.outline (sound_of sound d m is) m.rows is.rows b in
    (λ none. sym (uses_of d m is b) ∙ both.0 none, λ none. both.1 (uses_of d m is b ∙ none))

-- ---- how many there are

count_mapped : {X Y : Type 0} (p : Y → Bool) (f : X → Y) (xs : List X) → count_by p (map f xs) ≡ count_by (λ x. p (f x)) xs
count_mapped p f [] = refl
count_mapped p f (x ∷ xs) = omega (
  arith,
  count_mapped p f xs,
  sum_by-cons (λ y. cond {A = ℕ} (p y) 1 0) (f x) (map f xs),
  sum_by-cons (λ y. cond {A = ℕ} (p (f y)) 1 0) x xs,
)

tests_by : (o : Option ℕ) (n : ℕ) → (o ≡ None → n ≡ 0) → (n ≡ 0 → o ≡ None) → is_none o ≡ (n == 0)
tests_by None n zero' none = let is : n ≡ 0 = zero' refl in ap (λ (k : ℕ). k == 0) (sym is)
tests_by (Some k) zero zero' none = absurd (none-some k (sym (none refl)))
tests_by (Some k) (suc n) zero' none = grind (arith, nat_tests)

pub untaken_are_free : OutlinesAreSound → UntakenAreFree
untaken_are_free sound d m is =
    let count : m.outline.count ≡ is.volume.count = ap (λ (v : Volume). v.count) is.outline in
    count_mapped is_none (user m.outline m.rows) (range_with_len 0 m.outline.count)
    ∙ ap (λ (f : ℕ → Bool). count_by f (range_with_len 0 m.outline.count)) (λ i b.
    tests_by (user m.outline m.rows b) (uses b is.volume) (users_are_uses sound d m is b).0 (users_are_uses sound d m is b).1 i)
    ∙ ap (λ (n : ℕ). count_by (λ b. uses b is.volume == 0) (range_with_len 0 n)) count
    ∙ sym (length-filter (λ b. uses b is.volume == 0) (range_with_len 0 is.volume.count)) ∙ ap length (sym is.free)
