-- What is made row by row.
use Rattle.std.proofs.Common.{◌≡◌, ◌≢◌, ◌<◌, ℕ, false, List, [], ◌∷◌, ◌++◌, Option, None, Some, Result, Ok, Err, MatchResult, refl, ap, sym, subst, ◌∙◌}
use Rattle.std.proofs.Common.{append_assoc, append-nil, arith, inl, Bor, map}
use Rattle.std.specs.Prelude.{All, Contains, IfErr, IfSome, is_some}
use Rattle.std.specs.Str.{IsUtf8}
use Rattle.std.specs.Result.{IsErrAnd, result_err}
use Rattle.std.proofs.lemmas.List.Elements.{All-contains, All-contains_itself, All-head, All-tail, All-weaker, Contains-append_right}
use Rattle.lfs_block.specs.Disk.{Disk, IsDisk}
use Rattle.lfs_meta.specs.Name.{Name}
use Rattle.lfs_fs.specs.Path.{Path}
use Rattle.lfs_fs.specs.Row.{Row}
use Rattle.lfs_fs.specs.RowShown.{HasBlocks, RowsShowTheTree}
use Rattle.lfs_fs.specs.Mounted.{MountedValue, IsMountOf}
use Rattle.lfs_fs.specs.Listed.{Listed, path_after, row_after, rows_after}
use Rattle.lfs_command.specs.PathMap.{below}
use Rattle.lfs_extract.specs.PathBelow.{host_name}
use Rattle.lfs_extract.specs.RowsBelow.{row_below, rows_below}
use Rattle.lfs_host.specs.NewFolder.{Made, Makes}
use Rattle.lfs_host.specs.Scene.{HasRefusedMade, Scene}
use Rattle.lfs_extract.specs.Extracted.{HasRefusedOne, HaveTexts, IsBegun, IsHostText, JudgesNames, MakesFront, StayBelow, all_made, made_of}
use Rattle.lfs_extract.proofs.PrefixLemmas.{has_last}
use Rattle.lfs_extract.specs.declared.extract_fault.ExtractFault.{ExtractFault}
use Rattle.lfs_extract.specs.declared.extract_fault.ExtractFault.TheVariants.{Memory, HostName, CannotWrite}

pub makes_nothing : (old : Option (List Made)) → Makes old old []
makes_nothing None = tt
makes_nothing (Some xs) = sym (append-nil xs)

pub makes_then : (a b c : Option (List Made)) (first second : List Made) → Makes a b first → Makes b c second → Makes a c (first ++ second)
makes_then None b c first second p q = tt
makes_then (Some xs) None c first second p q = absurd p
makes_then (Some xs) (Some ys) None first second p q = absurd q
makes_then (Some xs) (Some ys) (Some zs) first second p q = q ∙ ap (λ l. l ++ second) p ∙ append_assoc xs first second

has_middle : (xs : List Made) (m : Made) (ys : List Made) → Contains (xs ++ m ∷ ys) m
has_middle xs m ys = Contains-append_right xs (m ∷ ys) m (0, omega arith, refl)

-- those in front of the rest were made
pub record IsOnWay (old new : Option (List Made)) (rest complete : List Made) : Type 0 where
  pub prefix : List Made
  pub made : Makes old new prefix
  pub all : prefix ++ rest ≡ complete

pub on_way : (old : Option (List Made)) (complete : List Made) → IsOnWay old old complete complete
on_way old complete = record { prefix = []; made = makes_nothing old; all = refl }

pub all_way : (old new : Option (List Made)) (complete : List Made) → IsOnWay old new [] complete → Makes old new complete
all_way old new complete h = subst (Makes old new) (sym (append-nil h.prefix) ∙ h.all) h.made

-- ---- rows

-- the rows that are left
pub record AreLeft (old new : Option (List Made)) (d : Disk) (at : Path) (dir : List ℕ) (left complete : List Row) : Type 0 where
  pub way : IsOnWay old new (all_made d dir (rows_below at left)) (all_made d dir (rows_below at complete))
  pub blocks : All (λ (r : Row). HasBlocks d r.entry.body) left
  pub texts : HaveTexts (rows_below at left)

pub all_left : (old : Option (List Made)) (d : Disk) (at : Path) (dir : List ℕ) (rows : List Row)
    → All (λ (r : Row). HasBlocks d r.entry.body) rows → HaveTexts (rows_below at rows) → AreLeft old old d at dir rows rows
all_left old d at dir rows blocks texts =
    record { way = on_way old (all_made d dir (rows_below at rows)); blocks = blocks; texts = texts }

module _ (old mid : Option (List Made)) (d : Disk) (at : Path) (dir : List ℕ) (q : Path) (left later : List Listed) (x : Listed) (complete : List Row)
    (h : AreLeft old mid d at dir (rows_after q left) complete) (first : left ≡ x ∷ later) where
  abbrev path : Path
  path = path_after q x.depth x.entry.name

  abbrev next : List Row
  next = rows_after path later

  here : AreLeft old mid d at dir (row_after q x ∷ next) complete
  here = subst (λ (xs : List Listed). AreLeft old mid d at dir (rows_after q xs) complete) first h

  later_blocks : All (λ (r : Row). HasBlocks d r.entry.body) next
  later_blocks = All-tail (λ (r : Row). HasBlocks d r.entry.body) (row_after q x) next here.blocks

  way_by : (o : Option Path) → below at path ≡ o
      → IsOnWay old mid (all_made d dir (row_below x.entry o (rows_below at next))) (all_made d dir (rows_below at complete))
  way_by o is =
      subst (λ (l : Option Path). IsOnWay old mid (all_made d dir (row_below x.entry l (rows_below at next))) (all_made d dir (rows_below at complete)))
      is here.way

  texts_by : (o : Option Path) → below at path ≡ o → HaveTexts (row_below x.entry o (rows_below at next))
  texts_by o is = subst (λ (l : Option Path). HaveTexts (row_below x.entry l (rows_below at next))) is here.texts

  pub has_blocks : HasBlocks d x.entry.body
  has_blocks = All-head (λ (r : Row). HasBlocks d r.entry.body) (row_after q x) next here.blocks

  -- a row that is neither at the path nor below it
  pub passed : below at path ≡ None → AreLeft old mid d at dir (rows_after (path_after q x.depth x.entry.name) later) complete
  passed outside = record { way = way_by None outside; blocks = later_blocks; texts = texts_by None outside }

  module _ (rest : Path) (inside : below at path ≡ Some rest) where
    abbrev row : Row
    row = record { path = rest; entry = x.entry }

    pub has_texts : All IsHostText rest
    has_texts = All-head (λ (r : Row). All IsHostText r.path) row (rows_below at next) (texts_by (Some rest) inside)

    -- one more is made
    pub one_more : (new : Option (List Made)) → Makes mid new (made_of d dir (record { path = rest; entry = x.entry }) ∷ [])
        → AreLeft old new d at dir (rows_after (path_after q x.depth x.entry.name) later) complete
    one_more new made =
        let way = way_by (Some rest) inside in
        record {
          way = record {
            prefix = way.prefix ++ made_of d dir row ∷ [];
            made = makes_then old mid new way.prefix (made_of d dir row ∷ []) way.made made;
            all = append_assoc way.prefix (made_of d dir row ∷ []) (all_made d dir (rows_below at next)) ∙ way.all;
          };
          blocks = later_blocks;
          texts = All-tail (λ (r : Row). All IsHostText r.path) row (rows_below at next) (texts_by (Some rest) inside);
        }

    -- or no more are, but for a beginning of the next one
    pub stopped_at : (new : Option (List Made)) (begun : List Made) → IsBegun (made_of d dir (record { path = rest; entry = x.entry })) begun
        → Makes mid new begun → MakesFront old new (all_made d dir (rows_below at complete))
    stopped_at new begun is made =
        let way = way_by (Some rest) inside in
        record {
          prefix = way.prefix;
          next = made_of d dir row;
          rest = all_made d dir (rows_below at next);
          begun = begun;
          split = way.all;
          is_begun = is;
          made = makes_then old mid new way.prefix begun way.made made;
        }

    pub stopped : MakesFront old mid (all_made d dir (rows_below at complete))
    stopped = stopped_at mid [] (inl refl) (makes_nothing mid)

    -- that one is among them
    pub next_there : Contains (all_made d dir (rows_below at complete)) (made_of d dir (record { path = rest; entry = x.entry }))
    next_there =
        let way = way_by (Some rest) inside in
        subst (λ (ms : List Made). Contains ms (made_of d dir row)) way.all
        (has_middle way.prefix (made_of d dir row) (all_made d dir (rows_below at next)))

-- ---- what is left of the path of a row

pub not_below : (at p : Path) → false ≡ is_some (below at p) → below at p ≡ None
not_below at p is = by (below at p) is
  where
    by : (o : Option Path) → false ≡ is_some o → o ≡ None
    by None none = refl
    by (Some rest) none = absurd cc

pub root_left : (at left : Path) → left ≡ [] → IfSome (below at []) (λ rest. rest ≡ left)
root_left [] left is = sym is
root_left (n ∷ at) left is = tt

pub none_left : (at p left : Path) → below at p ≡ None → IfSome (below at p) (λ rest. rest ≡ left)
none_left at p left none = subst (λ (o : Option Path). IfSome o (λ rest. rest ≡ left)) (sym none) tt

pub some_left : (at p left : Path) → below at p ≡ Some left → IfSome (below at p) (λ rest. rest ≡ left)
some_left at p left is = subst (λ (o : Option Path). IfSome o (λ rest. rest ≡ left)) (sym is) refl

-- the last name that is left is a text
pub last_text : (left : Path) (more depth : ℕ) (n : Name) → depth ≡ more → All IsHostText (path_after left more n) → depth ≢ 0 → IsUtf8 n
last_text left more depth n same texts some' =
    let above : 0 < more = omega (arith, same, some') in
    (All-contains IsHostText (path_after left more n) n texts (has_last left more n above)).text

-- a text that is joined of texts, whose path is known
pub named_at : (dir text joined : List ℕ) (texts items : List (Bor Name)) (p : Path) → text ≡ joined
    → joined ≡ host_name dir (map (λ n. n.now) texts) → texts ≡ items → map (λ n. n.now) items ≡ p → text ≡ host_name dir p
named_at dir text joined texts items p same is are path =
    same ∙ is ∙ ap (host_name dir) (ap (map (λ (n : Bor Name). n.now)) are ∙ path)

-- the rows of a mounted image have blocks of its disk
pub rows_have_blocks : RowsShowTheTree → (d : Disk) → IsDisk d → (m : MountedValue) → IsMountOf d m
    → All (λ (r : Row). HasBlocks d r.entry.body) m.rows
rows_have_blocks shows d disk m is =
    All-weaker (Contains m.rows) (λ (r : Row). HasBlocks d r.entry.body) (λ r there. (shows d m is r disk there).1) m.rows
    (All-contains_itself m.rows)

-- ---- what is answered

-- what making rows answers, where all names are texts
abbrev pub IsMade : Result (Unit {0}) ExtractFault → Option (List Made) → Option (List Made) → List Made → Type 0
IsMade result old new complete = MatchResult result (λ _. Makes old new complete) (λ fault. (fault ≢ HostName) × MakesFront old new complete)

pub memory_stops : (result : Result (Unit {0}) ExtractFault) (old new : Option (List Made)) (complete : List Made)
    → IsErrAnd result (λ fault. fault ≡ Memory) → MakesFront old new complete → IsMade result old new complete
memory_stops (Ok done) old new complete is front = absurd is
memory_stops (Err fault) old new complete is front = ((λ name. other (sym is ∙ name)), front)
  where
    other : Memory ≡ HostName → ⊥
    other same = absurd cc

pub host_stops : (result : Result (Unit {0}) ExtractFault) (old new : Option (List Made)) (complete : List Made)
    → IsErrAnd result (λ fault. fault ≡ CannotWrite) → MakesFront old new complete → IsMade result old new complete
host_stops (Ok done) old new complete is front = absurd is
host_stops (Err fault) old new complete is front = ((λ name. other (sym is ∙ name)), front)
  where
    other : CannotWrite ≡ HostName → ⊥
    other same = absurd cc

pub host_blamed : (result : Result (Unit {0}) ExtractFault) (new : Scene) (complete : List Made) (m : Made)
    → Contains complete m → HasRefusedMade new m → IfErr result (λ fault. fault ≡ CannotWrite → HasRefusedOne new complete)
host_blamed (Ok done) new complete m there refused = tt
host_blamed (Err fault) new complete m there refused = λ _. (m, there, refused)

judges_by : (fault : ExtractFault) (rows : List Row) → fault ≢ HostName → StayBelow rows → JudgesNames (Some fault) rows
judges_by Memory rows other stay = stay
judges_by HostName rows other stay = absurd (other refl)
judges_by CannotWrite rows other stay = stay

pub judges : (result : Result (Unit {0}) ExtractFault) (old new : Option (List Made)) (complete : List Made) (rows : List Row)
    → IsMade result old new complete → StayBelow rows → JudgesNames (result_err result) rows
judges (Ok done) old new complete rows made stay = stay
judges (Err fault) old new complete rows (other, prefix) stay = judges_by fault rows other stay
