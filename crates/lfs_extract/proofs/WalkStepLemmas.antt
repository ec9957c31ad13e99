-- Steps of a walk over what is below a host's folder, its start and its end.
use Rattle.std.proofs.Common.{◌≡◌, ◌≢◌, ◌+◌, ◌<◌, ◌≤◌, ℕ, true, List, [], ◌∷◌, ◌++◌, Option, Some, None, refl, ap, sym, ◌∙◌, subst, arith, inl, inr, map, append_assoc, length, length-append, get_or, suc}
use Rattle.std.specs.Prelude.{IfErr, IfSome, Result, Ok, Err}
use Rattle.std.specs.Result.{IsErrAnd}
use Rattle.std.specs.List.{All, Contains}
use Rattle.std.proofs.lemmas.List.{map-append, append-nil, length-map}
use Rattle.std.proofs.lemmas.List.Elements.{All-nil, All-cons, All-head, All-tail, All-append, All-map, All-push, All-weaker}
use Rattle.std.proofs.lemmas.List.Elements.{Contains-append_left, Contains-append_right}
use Rattle.lfs_meta.specs.Name.{Name}
use Rattle.lfs_fs.specs.Path.{Path, path_text}
use Rattle.lfs_fs.specs.Row.{path_precedes}
use Rattle.lfs_fs.specs.Ordered.{AreApart, PathsRise}
use Rattle.lfs_fs.proofs.ApartLemmas.{All-both, ApartFrom, apart-append, rise_apart, rise-insert}
use Rattle.lfs_fs.proofs.ContainsLemmas.{contains_later}
use Rattle.lfs_fs.proofs.OrderedLemmas.{met_stays}
use Rattle.lfs_extract.specs.declared.folder_row.FolderRow.{FolderRow}
use Rattle.lfs_extract.specs.declared.folder_fault.FolderFault.{FolderFault}
use Rattle.lfs_extract.specs.declared.folder_fault.FolderFault.TheVariants.{Memory, HostEntry, HostName, CannotRead}
use Rattle.lfs_host.specs.declared.host_kind.HostKind.TheVariants.{Missing, Other}
use Rattle.lfs_host.specs.HostTree.{HostNode, NothingThere, FileOf, FolderOf, OtherThere, HostTree, host_kind_of, IsKind, Lists, ReadsEntry}
use Rattle.lfs_host.specs.Scene.{HasRefusedEntry, Scene, refuses_reading}
use Rattle.lfs_host.specs.declared.read_fault.ReadFault.{ReadFault}
use Rattle.lfs_host.specs.declared.read_fault.ReadFault.TheVariants as reading
use Rattle.lfs_extract.specs.FolderFault.{folder_fault_of}
use Rattle.lfs_extract.specs.HostNames.{IsHostName}
use Rattle.lfs_extract.specs.PathBelow.{name_in, host_name, text_below}
use Rattle.lfs_extract.specs.FolderRows.{PathRow, folder_row, paths_of, IsRow, AreSpelled, IsInside, IsBelow, IsRight, AreAllBelow, IsFolder, RefusesHostTree, RefusesFolderRows, BlamesHost, IsUnreadable, most_rows}
use Rattle.lfs_extract.specs.FolderWalk.{IsMet, IsTreeWalk, IsWalk, IsFolderWalk, ShowsMore, EntersFolder, IsHostBlamed, RefusesFolder}
use Rattle.lfs_extract.proofs.PathBelowLemmas.{text_is, name_of_root, name_below, below_in, all_met}
use Rattle.lfs_extract.proofs.WalkLemmas.{children, IsTreePut, IsPut, file_put, folder_put}

-- ---- a step, whatever is put before what waits

abbrev row_at : Path → Option (List ℕ) → PathRow
row_at p bytes = record { path = p; bytes = bytes }

-- the paths that were met before and those that are met after
met_after : (shown : List PathRow) (p : Path) (bytes : Option (List ℕ)) (rest : List Path)
    → paths_of (shown ++ row_at p bytes ∷ []) ++ rest ≡ paths_of shown ++ p ∷ rest
met_after shown p bytes rest =
    ap (λ (ps : List Path). ps ++ rest) (map-append (λ (r : PathRow). r.path) shown (row_at p bytes ∷ []))
    ∙ append_assoc (paths_of shown) (p ∷ []) rest

-- what is in a folder that is shown stays so
inside_stays : (shown : List PathRow) (r : PathRow) (q : Path) → IsInside shown q → IsInside (shown ++ r ∷ []) q
inside_stays shown r q (inl root) = inl root
inside_stays shown r q (inr (p, n, is, there)) = inr (p, n, is, Contains-append_left shown (r ∷ []) (folder_row p) there)

-- what holds of what was met and of what is put holds of all that is met after
all_after : (P : Path → Type 0) (ps : List Path) (p : Path) (more rest : List Path) → All P (ps ++ p ∷ rest) → All P more
    → All P (ps ++ (p ∷ (more ++ rest)))
all_after P ps p more rest h new =
    let both = All-both P ps (p ∷ rest) h in
    All-append P ps (p ∷ (more ++ rest)) both.0 (All-cons P p (more ++ rest) (All-head P p rest both.1)
    (All-append P more rest new (All-tail P p rest both.1)))

both_known : {A : Type 0} (o : Option A) (P Q R : A → Type 0) → ((a : A) → P a → Q a → R a) → IfSome o P → IfSome o Q → IfSome o R
both_known None P Q R f h k = h
both_known (Some a) P Q R f h k = f a h k

step_tree : (most : ℕ) (dir : List ℕ) (shown : List PathRow) (p : Path) (bytes : Option (List ℕ)) (more rest : List Path) (tree : HostTree)
    → IsTreeWalk most dir shown (p ∷ rest) tree → IsTreePut most dir p bytes more tree
    → IsTreeWalk most dir (shown ++ row_at p bytes ∷ []) (more ++ rest) tree
step_tree most dir shown p bytes more rest tree walk put =
    let r : PathRow = row_at p bytes in
    let ps : List Path = paths_of shown in
    let met : List Path = ps ++ (p ∷ (more ++ rest)) in
    let met_is : paths_of (shown ++ r ∷ []) ++ (more ++ rest) ≡ met = met_after shown p bytes (more ++ rest) in
    let here : IsBelow tree dir p = All-head (IsBelow tree dir) p rest walk.waits in
    let old : All (IsMet tree dir met) shown = All-weaker (IsMet tree dir (ps ++ p ∷ rest)) (IsMet tree dir met)
    (λ row is names folder n there. met_stays ps p more rest (row.path ++ n ∷ []) (is names folder n there)) shown walk.met in
    let new : IsMet tree dir met r = λ names folder n there. Contains-append_right ps (p ∷ (more ++ rest)) (p ++ n ∷ [])
    (contains_later p (more ++ rest) (p ++ n ∷ []) (Contains-append_left more rest (p ++ n ∷ []) (put.met names folder n there))) in
    record {
      right = All-push (IsRight most tree dir) shown r walk.right (here, put.shows);
      waits = All-append (IsBelow tree dir) more rest put.waits (All-tail (IsBelow tree dir) p rest walk.waits);
      met = subst (λ (ms : List Path). All (IsMet tree dir ms) (shown ++ r ∷ [])) (sym met_is)
          (All-push (IsMet tree dir met) shown r old new);
    }

pub walk_step : (most : ℕ) (known : Option HostTree) (dir : List ℕ) (shown : List PathRow) (p : Path) (bytes : Option (List ℕ))
    (more rest : List Path) → IsWalk most known dir shown (p ∷ rest) → IsPut most known dir shown p bytes more
    → IsWalk most known dir (shown ++ row_at p bytes ∷ []) (more ++ rest)
walk_step most known dir shown p bytes more rest walk put =
    let r : PathRow = row_at p bytes in
    let ps : List Path = paths_of shown in
    let met_is : paths_of (shown ++ r ∷ []) ++ (more ++ rest) ≡ ps ++ (p ∷ (more ++ rest)) = met_after shown p bytes (more ++ rest) in
    let between : ApartFrom more rest = λ i d within j e inside. put.before (get_or rest j e) (walk.distinct.0 j e inside) i d within in
    let apart_all : AreApart (more ++ rest) = apart-append more rest put.distinct walk.distinct.1 between in
    let I : Path → Type 0 = λ (q : Path). IsInside (shown ++ r ∷ []) q in
    let F : Path → Type 0 = λ (q : Path). All IsHostName q in
    let stays : All I (ps ++ p ∷ rest) = All-weaker (λ (q : Path). IsInside shown q) I (λ q is. inside_stays shown r q is)
    (ps ++ p ∷ rest) walk.inside in
    record {
      rest = walk.rest ++ r ∷ [];
      root = ap (λ (rows : List PathRow). rows ++ r ∷ []) walk.root;
      rise = subst PathsRise (sym met_is) (rise-insert ps p more rest walk.rise (rise_apart (more ++ rest) apart_all) put.after);
      distinct = apart_all;
      fit = subst (All F) (sym met_is) (all_after F ps p more rest walk.fit put.fit);
      inside = subst (All I) (sym met_is) (all_after I ps p more rest stays put.inside);
      all = both_known known (λ (tree : HostTree). IsTreeWalk most dir shown (p ∷ rest) tree)
          (λ (tree : HostTree). IsTreePut most dir p bytes more tree)
          (λ (tree : HostTree). IsTreeWalk most dir (shown ++ r ∷ []) (more ++ rest) tree)
          (λ tree h k. step_tree most dir shown p bytes more rest tree h k) walk.all put.all;
    }

-- ---- rows and names

spelled_more : (rows : List FolderRow) (shown : List PathRow) (row : FolderRow) (r : PathRow) → AreSpelled rows shown
    → IsRow row (path_text r.path) r.bytes → AreSpelled (rows ++ row ∷ []) (shown ++ r ∷ [])
spelled_more [] [] row r h is = (is, tt)
spelled_more [] (s ∷ shown) row r h is = absurd h
spelled_more (x ∷ rows) [] row r h is = absurd h
spelled_more (x ∷ rows) (s ∷ shown) row r h is = (h.0, spelled_more rows shown row r h.1 is)

-- what waits next
pub record IsNext (dir name : List ℕ) (waiting : List (List ℕ)) (queue : List Path) : Type 0 where
  pub path : Path
  pub rest : List Path
  pub queue_is : queue ≡ path ∷ rest
  pub name_is : name ≡ host_name dir path
  pub waiting_is : waiting ≡ map (host_name dir) rest

pub next_path : (dir name : List ℕ) (waiting : List (List ℕ)) (queue : List Path) → name ∷ waiting ≡ map (host_name dir) queue
    → IsNext dir name waiting queue
next_path dir name waiting [] h = absurd (cc)
next_path dir name waiting (p ∷ rest) h = record { path = p; rest = rest; queue_is = refl; name_is = cc; waiting_is = cc }

-- the names of what is put, before those of what waits
names_put : (dir : List ℕ) (p : Path) (names : List Name) → map (name_in (host_name dir p)) names ≡ map (host_name dir) (children p names)
names_put dir p [] = refl
names_put dir p (n ∷ names) = ap (λ (x : List ℕ). x ∷ map (name_in (host_name dir p)) names) (sym (name_below dir p n))
    ∙ ap (λ (xs : List (List ℕ)). host_name dir (p ++ n ∷ []) ∷ xs) (names_put dir p names)

-- a row is shown at the text of its path
pub shown_at : (dir name : List ℕ) (p : Path) (bytes : Option (List ℕ)) (row : FolderRow) → name ≡ host_name dir p
    → IsRow row (text_below (length dir) name) bytes → IsRow row (path_text p) bytes
shown_at dir name p bytes row is h = (h.0 ∙ ap (text_below (length dir)) is ∙ text_is dir p, h.1)

-- ---- steps

-- the walk at what waits next
pub at_next : (most : ℕ) (known : Option HostTree) (dir : List ℕ) (shown : List PathRow) (queue : List Path) (p : Path) (rest : List Path)
    → queue ≡ p ∷ rest → IsWalk most known dir shown queue → IsWalk most known dir shown (p ∷ rest)
at_next most known dir shown queue p rest is walk = subst (IsWalk most known dir shown) is walk

known_below : (most : ℕ) (known : Option HostTree) (dir : List ℕ) (shown : List PathRow) (p : Path) (rest : List Path)
    → IsWalk most known dir shown (p ∷ rest) → IfSome known (λ tree. IsBelow tree dir p)
known_below most known dir shown p rest walk =
    let T : HostTree → Type 0 = λ (tree : HostTree). IsTreeWalk most dir shown (p ∷ rest) tree in
    both_known known T T (λ (tree : HostTree). IsBelow tree dir p) (λ tree h k. All-head (IsBelow tree dir) p rest h.waits) walk.all walk.all

fits_next : (most : ℕ) (known : Option HostTree) (dir : List ℕ) (shown : List PathRow) (p : Path) (rest : List Path)
    → IsWalk most known dir shown (p ∷ rest) → All IsHostName p
fits_next most known dir shown p rest walk =
    let F : Path → Type 0 = λ (q : Path). All IsHostName q in
    All-head F p rest (All-both F (paths_of shown) (p ∷ rest) walk.fit).1

pub step_file : (most : ℕ) (known : Option HostTree) (dir name bytes : List ℕ) (rows longer : List FolderRow) (waiting : List (List ℕ))
    → IsFolderWalk most known dir rows (name ∷ waiting) → ReadsEntry known name most bytes
    → ShowsMore (text_below (length dir) name) (Some bytes) rows longer → IsFolderWalk most known dir longer waiting
step_file most known dir name bytes rows longer waiting walk read (row, is, shows) =
    let next = next_path dir name waiting walk.queue walk.names in
    let p : Path = next.path in
    let here = at_next most known dir walk.shown walk.queue p next.rest next.queue_is walk.walk in
    let put = file_put most known dir walk.shown p bytes (subst (λ (x : List ℕ). ReadsEntry known x most bytes) next.name_is read) in
    record {
      shown = walk.shown ++ row_at p (Some bytes) ∷ [];
      queue = next.rest;
      spelled = rw is (spelled_more rows walk.shown row (row_at p (Some bytes)) walk.spelled
          (shown_at dir name p (Some bytes) row next.name_is shows));
      names = next.waiting_is;
      walk = walk_step most known dir walk.shown p (Some bytes) [] next.rest here put;
    }

pub step_folder : (most : ℕ) (known : Option HostTree) (dir name : List ℕ) (rows longer : List FolderRow) (waiting more : List (List ℕ))
    → IsFolderWalk most known dir rows (name ∷ waiting) → EntersFolder known (length dir) name rows longer waiting more
    → IsFolderWalk most known dir longer more
step_folder most known dir name rows longer waiting more walk enters =
    let next = next_path dir name waiting walk.queue walk.names in
    let p : Path = next.path in
    let here = at_next most known dir walk.shown walk.queue p next.rest next.queue_is walk.walk in
    let listed : Lists known (host_name dir p) enters.names = subst (λ (x : List ℕ). Lists known x enters.names) next.name_is enters.listed in
    let put = folder_put most known dir walk.shown p enters.names enters.rise enters.fit
    (fits_next most known dir walk.shown p next.rest here) listed (known_below most known dir walk.shown p next.rest here) in
    let cs : List Path = children p enters.names in
    let row : FolderRow = enters.shows.0 in
    let names : map (name_in name) enters.names ≡ map (host_name dir) cs =
    ap (λ (x : List ℕ). map (name_in x) enters.names) next.name_is ∙ names_put dir p enters.names in
    record {
      shown = walk.shown ++ row_at p None ∷ [];
      queue = cs ++ next.rest;
      spelled = rw enters.shows.1 (spelled_more rows walk.shown row (row_at p None) walk.spelled
          (shown_at dir name p None row next.name_is enters.shows.2));
      names = enters.waits ∙ ap (λ (xs : List (List ℕ)). xs ++ waiting) names
          ∙ ap (λ (xs : List (List ℕ)). map (host_name dir) cs ++ xs) next.waiting_is ∙ sym (map-append (host_name dir) cs next.rest);
      walk = walk_step most known dir walk.shown p None cs next.rest here put;
    }

-- ---- the start

start_tree : (most : ℕ) (dir : List ℕ) (more : List Path) (tree : HostTree) → IsTreePut most dir [] None more tree
    → IsTreeWalk most dir (folder_row [] ∷ []) more tree
start_tree most dir more tree put =
    let R : PathRow → Type 0 = IsRight most tree dir in
    let M : PathRow → Type 0 = IsMet tree dir ([] ∷ more) in
    record {
      right = All-cons R (folder_row []) [] (tt, put.shows) (All-nil R);
      waits = put.waits;
      met = All-cons M (folder_row []) [] (λ names folder n there. contains_later [] more (n ∷ []) (put.met names folder n there)) (All-nil M);
    }

nothing_above : (known : Option HostTree) (dir : List ℕ) → IfSome known (λ tree. IsBelow tree dir [])
nothing_above None dir = tt
nothing_above (Some tree) dir = tt

pub walk_start : (most : ℕ) (known : Option HostTree) (dir : List ℕ) (rows : List FolderRow) (more : List (List ℕ))
    → EntersFolder known (length dir) dir [] rows [] more → IsFolderWalk most known dir rows more
walk_start most known dir rows more enters =
    let listed : Lists known (host_name dir []) enters.names =
    subst (λ (x : List ℕ). Lists known x enters.names) (sym (name_of_root dir)) enters.listed in
    let put = folder_put most known dir [] [] enters.names enters.rise enters.fit (All-nil IsHostName) listed (nothing_above known dir) in
    let cs : List Path = children [] enters.names in
    let row : FolderRow = enters.shows.0 in
    let I : Path → Type 0 = λ (q : Path). IsInside (folder_row [] ∷ []) q in
    let F : Path → Type 0 = λ (q : Path). All IsHostName q in
    record {
      shown = folder_row [] ∷ [];
      queue = cs;
      spelled = rw enters.shows.1 (shown_at dir dir [] None row (sym (name_of_root dir)) enters.shows.2, tt);
      names = enters.waits ∙ append-nil (map (name_in dir) enters.names)
          ∙ ap (λ (x : List ℕ). map (name_in x) enters.names) (sym (name_of_root dir)) ∙ names_put dir [] enters.names;
      walk = record {
        rest = [];
        root = refl;
        rise = (put.after, rise_apart cs put.distinct);
        distinct = put.distinct;
        fit = All-cons F [] cs (All-nil IsHostName) put.fit;
        inside = All-cons I [] cs (inl refl) put.inside;
        all = both_known known (λ (tree : HostTree). IsTreePut most dir [] None cs tree) (λ (tree : HostTree). IsTreePut most dir [] None cs tree)
            (λ (tree : HostTree). IsTreeWalk most dir (folder_row [] ∷ []) cs tree) (λ tree h k. start_tree most dir cs tree h) put.all put.all;
      };
    }

-- ---- the end

no_paths : (dir : List ℕ) (queue : List Path) → [] ≡ map (host_name dir) queue → queue ≡ []
no_paths dir [] h = refl
no_paths dir (p ∷ queue) h = cc

end_tree : (most : ℕ) (dir : List ℕ) (shown : List PathRow) (rest : List PathRow) (tree : HostTree) → shown ≡ folder_row [] ∷ rest
    → IsTreeWalk most dir shown [] tree → AreAllBelow most tree dir shown
end_tree most dir shown rest tree root walk =
    let met : All (IsMet tree dir (paths_of shown)) shown =
    subst (λ (ms : List Path). All (IsMet tree dir ms) shown) (append-nil (paths_of shown)) walk.met in
    let first : Contains (paths_of shown) [] = rw root (0, omega arith, refl) in
    record {
      right = walk.right;
      complete = λ path below. all_met tree dir shown met [] path first
          (subst (λ (x : List ℕ). IsBelow tree x path) (sym (name_of_root dir)) below);
    }

pub walk_end : (most : ℕ) (known : Option HostTree) (dir : List ℕ) (rows : List FolderRow) → IsFolderWalk most known dir rows []
    → IsFolder most known dir rows
walk_end most known dir rows walk =
    let shown : List PathRow = walk.shown in
    let done : IsWalk most known dir shown [] = subst (IsWalk most known dir shown) (no_paths dir walk.queue walk.names) walk.walk in
    let all_is : paths_of shown ++ [] ≡ paths_of shown = append-nil (paths_of shown) in
    let T : HostTree → Type 0 = λ (tree : HostTree). IsTreeWalk most dir shown [] tree in
    record {
      shown = shown;
      spelled = walk.spelled;
      ordered = record {
        rest = done.rest;
        root = done.root;
        rise = subst PathsRise all_is done.rise;
        fit = subst (All (λ (q : Path). All IsHostName q)) all_is done.fit;
        inside = subst (All (λ (q : Path). IsInside shown q)) all_is done.inside;
      };
      all = both_known known T T (λ (tree : HostTree). AreAllBelow most tree dir shown)
          (λ tree h k. end_tree most dir shown done.rest tree done.root h) done.all done.all;
    }

-- ---- why a walk ends early

other_there : (node : HostNode) → Other ≡ host_kind_of node → node ≡ OtherThere
other_there NothingThere h = cc
other_there (FileOf bytes) h = cc
other_there (FolderOf names) h = cc
other_there OtherThere h = refl

-- what waits isn't the folder itself
not_root : (shown rest : List PathRow) (p : Path) (queue : List Path) → shown ≡ folder_row [] ∷ rest
    → PathsRise (paths_of shown ++ p ∷ queue) → p ≢ []
not_root shown rest p queue root rise is =
    let P : Path → Type 0 = λ (q : Path). path_precedes [] q ≡ true in
    let all : PathsRise (paths_of (folder_row [] ∷ rest) ++ p ∷ queue) =
    subst (λ (rows : List PathRow). PathsRise (paths_of rows ++ p ∷ queue)) root rise in
    let before : path_precedes [] p ≡ true = All-head P p queue (All-both P (paths_of rest) (p ∷ queue) all.0).1 in
    let same : path_precedes [] [] ≡ true = subst P is before in
    cc

refuses_other : (most : ℕ) (known : Option HostTree) (dir name : List ℕ) (p : Path) → name ≡ host_name dir p → p ≢ [] → IsKind known name Other
    → IfSome known (λ tree. IsBelow tree dir p) → RefusesFolderRows known dir HostEntry
refuses_other most None dir name p is other kind below = tt
refuses_other most (Some tree) dir name p is other kind below =
    (p, below, other, other_there (tree (host_name dir p)) (kind ∙ ap (λ (x : List ℕ). host_kind_of (tree x)) is))

pub walk_other : (most : ℕ) (known : Option HostTree) (dir name : List ℕ) (rows : List FolderRow) (waiting : List (List ℕ))
    → IsFolderWalk most known dir rows (name ∷ waiting) → IsKind known name Other → RefusesFolderRows known dir HostEntry
walk_other most known dir name rows waiting walk kind =
    let next = next_path dir name waiting walk.queue walk.names in
    let p : Path = next.path in
    let here = at_next most known dir walk.shown walk.queue p next.rest next.queue_is walk.walk in
    refuses_other most known dir name p next.name_is (not_root walk.shown here.rest p next.rest here.root here.rise) kind
    (known_below most known dir walk.shown p next.rest here)

refuses_folder : (tree : HostTree) (dir name : List ℕ) (p : Path) (fault : FolderFault) → name ≡ host_name dir p → IsBelow tree dir p
    → RefusesFolder name fault tree → RefusesHostTree tree dir fault
refuses_folder tree dir name p HostName is below (names, n, folder, there, bad) =
    (p, n, below_in tree dir p names n below (ap tree (sym is) ∙ folder) there, bad)
refuses_folder tree dir name p HostEntry is below why = absurd why
refuses_folder tree dir name p Memory is below why = tt
refuses_folder tree dir name p CannotRead is below why = tt

pub walk_refused : (most : ℕ) (known : Option HostTree) (dir name : List ℕ) (rows : List FolderRow) (waiting : List (List ℕ)) (fault : FolderFault)
    → IsFolderWalk most known dir rows (name ∷ waiting) → IfSome known (RefusesFolder name fault) → RefusesFolderRows known dir fault
walk_refused most known dir name rows waiting fault walk why =
    let next = next_path dir name waiting walk.queue walk.names in
    let p : Path = next.path in
    let here = at_next most known dir walk.shown walk.queue p next.rest next.queue_is walk.walk in
    both_known known (λ (tree : HostTree). IsBelow tree dir p) (RefusesFolder name fault) (λ (tree : HostTree). RefusesHostTree tree dir fault)
    (λ tree below h. refuses_folder tree dir name p fault next.name_is below h)
    (known_below most known dir walk.shown p next.rest here) why

pub start_refused : (known : Option HostTree) (dir : List ℕ) (fault : FolderFault) → IfSome known (RefusesFolder dir fault) → RefusesFolderRows known dir fault
start_refused known dir fault why =
    both_known known (λ (tree : HostTree). IsBelow tree dir []) (RefusesFolder dir fault) (λ (tree : HostTree). RefusesHostTree tree dir fault)
    (λ tree below h. refuses_folder tree dir dir [] fault (sym (name_of_root dir)) below h) (nothing_above known dir) why

-- ---- why it can't be read

missing_there : (node : HostNode) → Missing ≡ host_kind_of node → node ≡ NothingThere
missing_there NothingThere h = refl
missing_there (FileOf bytes) h = cc
missing_there (FolderOf names) h = cc
missing_there OtherThere h = cc

blames_gap : (known : Option HostTree) (dir name : List ℕ) (p : Path) (new : Scene) → name ≡ host_name dir p → p ≢ [] → IsKind known name Missing
    → IfSome known (λ tree. IsBelow tree dir p) → BlamesHost known dir new CannotRead
blames_gap None dir name p new is other kind below = tt
blames_gap (Some tree) dir name p new is other kind below =
    inr (inl (p, below, other, missing_there (tree (host_name dir p)) (kind ∙ ap (λ (x : List ℕ). host_kind_of (tree x)) is)))

-- what waits isn't there
pub walk_missing : (most : ℕ) (known : Option HostTree) (dir name : List ℕ) (rows : List FolderRow) (waiting : List (List ℕ)) (new : Scene)
    → IsFolderWalk most known dir rows (name ∷ waiting) → IsKind known name Missing → BlamesHost known dir new CannotRead
walk_missing most known dir name rows waiting new walk kind =
    let next = next_path dir name waiting walk.queue walk.names in
    let p : Path = next.path in
    let here = at_next most known dir walk.shown walk.queue p next.rest next.queue_is walk.walk in
    blames_gap known dir name p new next.name_is (not_root walk.shown here.rest p next.rest here.root here.rise) kind
    (known_below most known dir walk.shown p next.rest here)

spelled_many : (rows : List FolderRow) (shown : List PathRow) → AreSpelled rows shown → length rows ≡ length shown
spelled_many [] [] h = refl
spelled_many [] (s ∷ shown) h = absurd h
spelled_many (x ∷ rows) [] h = absurd h
spelled_many (x ∷ rows) (s ∷ shown) h = ap suc (spelled_many rows shown h.1)

-- all that was met is below
met_below : (most : ℕ) (tree : HostTree) (dir : List ℕ) (shown : List PathRow) (queue : List Path) → IsTreeWalk most dir shown queue tree
    → All (IsBelow tree dir) (paths_of shown ++ queue)
met_below most tree dir shown queue walk =
    let B : PathRow → Type 0 = λ (r : PathRow). IsBelow tree dir r.path in
    All-append (IsBelow tree dir) (paths_of shown) queue
    (All-map (IsBelow tree dir) (λ (r : PathRow). r.path) shown (All-weaker (IsRight most tree dir) B (λ r is. is.0) shown walk.right)) walk.waits

-- as many rows as there may be are shown, and something waits
pub walk_too_long : (most : ℕ) (known : Option HostTree) (dir name : List ℕ) (rows : List FolderRow) (waiting : List (List ℕ)) (new : Scene)
    → IsFolderWalk most known dir rows (name ∷ waiting) → most_rows ≤ length rows → BlamesHost known dir new CannotRead
walk_too_long most known dir name rows waiting new walk long =
    let next = next_path dir name waiting walk.queue walk.names in
    let p : Path = next.path in
    let shown : List PathRow = walk.shown in
    let here = at_next most known dir shown walk.queue p next.rest next.queue_is walk.walk in
    let T : HostTree → Type 0 = λ (tree : HostTree). IsTreeWalk most dir shown (p ∷ next.rest) tree in
    let met : List Path = paths_of shown ++ p ∷ next.rest in
    let count : length met ≡ length (paths_of shown) + length (p ∷ next.rest) = length-append (paths_of shown) (p ∷ next.rest) in
    let rows_are : length rows ≡ length shown = spelled_many rows shown walk.spelled in
    let paths_are : length (paths_of shown) ≡ length shown = length-map shown (λ (r : PathRow). r.path) in
    let more : most_rows < length met = omega arith in
    both_known known T T (λ (tree : HostTree). IsUnreadable tree dir new)
    (λ tree h k. inr (inr (met, here.rise, met_below most tree dir shown (p ∷ next.rest) h, more))) here.all here.all

-- the host has refused to read what waits
pub walk_unread : (most : ℕ) (known : Option HostTree) (dir name : List ℕ) (rows : List FolderRow) (waiting : List (List ℕ)) (new : Scene)
    → IsFolderWalk most known dir rows (name ∷ waiting) → IfSome known (λ _. HasRefusedEntry new name) → BlamesHost known dir new CannotRead
walk_unread most known dir name rows waiting new walk why =
    let next = next_path dir name waiting walk.queue walk.names in
    let p : Path = next.path in
    let here = at_next most known dir walk.shown walk.queue p next.rest next.queue_is walk.walk in
    both_known known (λ (tree : HostTree). IsBelow tree dir p) (λ (tree : HostTree). HasRefusedEntry new name)
    (λ (tree : HostTree). IsUnreadable tree dir new)
    (λ tree below h. inl (p, below, subst (HasRefusedEntry new) next.name_is h))
    (known_below most known dir walk.shown p next.rest here) why

-- as it is told
pub unread_by : {T : Type 0} (most : ℕ) (known : Option HostTree) (dir name : List ℕ) (rows : List FolderRow) (waiting : List (List ℕ)) (new : Scene)
    (result : Result T FolderFault) → IsFolderWalk most known dir rows (name ∷ waiting) → HasRefusedEntry new name
    → IfErr result (λ fault. BlamesHost known dir new fault)
unread_by most known dir name rows waiting new (Ok done) walk why = tt
unread_by most None dir name rows waiting new (Err CannotRead) walk why = tt
unread_by most (Some tree) dir name rows waiting new (Err CannotRead) walk why =
    walk_unread most (Some tree) dir name rows waiting new walk why
unread_by most known dir name rows waiting new (Err Memory) walk why = tt
unread_by most known dir name rows waiting new (Err HostName) walk why = tt
unread_by most known dir name rows waiting new (Err HostEntry) walk why = tt

-- memory was refused, or the host refuses
pub reading_unread : {T : Type 0} (most : ℕ) (known : Option HostTree) (dir name : List ℕ) (rows : List FolderRow) (waiting : List (List ℕ)) (new : Scene)
    (fault : ReadFault) (result : Result T FolderFault) → IsFolderWalk most known dir rows (name ∷ waiting)
    → (refuses_reading fault ≡ true → HasRefusedEntry new name) → IsErrAnd result (λ told. told ≡ folder_fault_of fault)
    → IfErr result (λ told. BlamesHost known dir new told)
reading_unread most known dir name rows waiting new reading.Memory (Ok done) walk why is = tt
reading_unread most known dir name rows waiting new reading.Memory (Err told) walk why is = rw is tt
reading_unread most known dir name rows waiting new reading.CannotRead result walk why is =
    unread_by most known dir name rows waiting new result walk (why refl)

-- a folder that isn't entered
pub walk_blamed : (most : ℕ) (known seen : Option HostTree) (dir name : List ℕ) (rows : List FolderRow) (waiting : List (List ℕ)) (new : Scene)
    (fault : FolderFault) → IsFolderWalk most known dir rows (name ∷ waiting) → seen ≡ known → IsHostBlamed seen name new fault
    → BlamesHost known dir new fault
walk_blamed most known seen dir name rows waiting new CannotRead walk same why =
    walk_unread most known dir name rows waiting new walk (subst (λ (k : Option HostTree). IsHostBlamed k name new CannotRead) same why)
walk_blamed most known seen dir name rows waiting new Memory walk same why = tt
walk_blamed most known seen dir name rows waiting new HostName walk same why = tt
walk_blamed most known seen dir name rows waiting new HostEntry walk same why = tt

-- nor is the folder that the walk begins with
pub start_blamed : (known : Option HostTree) (dir : List ℕ) (new : Scene) (fault : FolderFault) → IsHostBlamed known dir new fault
    → BlamesHost known dir new fault
start_blamed None dir new CannotRead why = tt
start_blamed (Some tree) dir new CannotRead why = inl ([], tt, subst (HasRefusedEntry new) (sym (name_of_root dir)) why)
start_blamed known dir new Memory why = tt
start_blamed known dir new HostName why = tt
start_blamed known dir new HostEntry why = tt
