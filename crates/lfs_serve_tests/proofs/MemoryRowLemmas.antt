-- What is below a folder of a host in memory.
use Rattle.std.proofs.Common.{◌≡◌, ◌≢◌, ◌⊎◌, ℕ, true, false, List, [], ◌∷◌, ◌++◌, Option, Some, None, refl, sym, subst, inl, inr, append_assoc, map, take, string_bytes}
use Rattle.std.specs.Prelude.{flat_map, IfErr, Result, Ok, Err}
use Rattle.std.proofs.lemmas.List.{append-nil}
use Rattle.lfs_fs.specs.Path.{Path}
use Rattle.lfs_extract.specs.PathBelow.{host_name, name_in}
use Rattle.lfs_extract.specs.FolderRows.{IsBelow, BlamesHost, RefusesHostTree}
use Rattle.lfs_extract.specs.declared.folder_fault.FolderFault.{FolderFault}
use Rattle.lfs_extract.specs.declared.folder_fault.FolderFault.TheVariants.{Memory, HostEntry, HostName, CannotRead}
use Rattle.lfs_host.specs.HostTree.{HostTree, NothingThere, OtherThere}
use Rattle.lfs_host.specs.MadeEntry.{made_as}
use Rattle.lfs_host.specs.MemoryFiles.{files_of}
use Rattle.lfs_host.specs.Scene.{HasRefusedEntry, Scene}
use Rattle.lfs_host.specs.declared.memory_host.MemoryHost.{MemoryHost}
use Rattle.lfs_host.specs.MemoryTree.{HasNoGap, host_node_of, tree_of}
use Rattle.lfs_serve_tests.specs.MemoryRows.{RefusesInMemory}

-- what is known of a host in memory
abbrev pub scene_of : MemoryHost → Scene
scene_of host = record {
  files = Some (files_of host.files);
  typed = Some host.typed.now;
  printed = Some host.printed.items;
  flushed = Some (take host.flushed host.printed.items);
  tree = Some (tree_of host.files);
  made = Some (map made_as host.made.items);
  claimed = Some (map string_bytes host.claimed.items);
  has_withheld = Some false;
  has_read_unclaimed = Some false;
  refused = Some (λ _. host.has_refused);
}

-- a file or a folder isn't something else
pub node_is_known : (file : Option (List ℕ)) (names : List (List ℕ)) → host_node_of file names ≢ OtherThere
node_is_known (Some bytes) names = λ other. cc
node_is_known None [] = λ other. cc
node_is_known None (n ∷ names) = λ other. cc

-- what is below is there
pub below_is_there : (tree : HostTree) → HasNoGap tree → (name : List ℕ) (path : Path) → path ≢ [] → IsBelow tree name path
    → tree (host_name name path) ≢ NothingThere
below_is_there tree complete name [] other below = absurd (other refl)
below_is_there tree complete name (n ∷ []) other (names, folder, there, end) =
    subst (λ (x : List ℕ). tree (name ++ x) ≢ NothingThere) (sym (append-nil (47 ∷ n))) (complete name n names folder there)
below_is_there tree complete name (n ∷ (m ∷ path)) other (names, folder, there, rest) =
    subst (λ (x : List ℕ). tree x ≢ NothingThere) (append_assoc name (47 ∷ n) (flat_map (λ n. 47 ∷ n) (m ∷ path)))
    (below_is_there tree complete (name_in name n) (m ∷ path) (λ none. cc) rest)

-- a call that reads what is under a name was refused, which is noted alike of all calls
pub entry_noted : {A : Type 0} → A ⊎ A ⊎ A → A
entry_noted (inl a) = a
entry_noted (inr (inl a)) = a
entry_noted (inr (inr a)) = a

-- a host in memory notes that a call that reads what is under a name was refused
abbrev pub Notes : Scene → MemoryHost → Type 0
Notes scene new = (name : List ℕ) → HasRefusedEntry scene name → new.has_refused ≡ true

-- why a folder of a host in memory isn't read
refuses_by : (tree : HostTree) (dir : List ℕ) (scene : Scene) (new : MemoryHost) (fault : FolderFault) → HasNoGap tree
    → ((name : List ℕ) → tree name ≢ OtherThere) → Notes scene new → RefusesHostTree tree dir fault
    → BlamesHost (Some tree) dir scene fault → RefusesInMemory tree dir new fault
refuses_by tree dir scene new HostEntry complete known noted (path, below, other, there) blamed = absurd (known (host_name dir path) there)
refuses_by tree dir scene new CannotRead complete known noted why (inl (path, below, refused)) = inl (noted (host_name dir path) refused)
refuses_by tree dir scene new CannotRead complete known noted why (inr (inl (path, below, other, gap))) =
    absurd (below_is_there tree complete dir path other below gap)
refuses_by tree dir scene new CannotRead complete known noted why (inr (inr many)) = inr many
refuses_by tree dir scene new HostName complete known noted why blamed = tt
refuses_by tree dir scene new Memory complete known noted why blamed = tt

pub refuses_in_memory : {T : Type 0} (tree : HostTree) (dir : List ℕ) (scene : Scene) (new : MemoryHost) (rows : Result T FolderFault) → HasNoGap tree
    → ((name : List ℕ) → tree name ≢ OtherThere) → Notes scene new → IfErr rows (λ fault. RefusesHostTree tree dir fault)
    → IfErr rows (λ fault. BlamesHost (Some tree) dir scene fault) → IfErr rows (λ fault. RefusesInMemory tree dir new fault)
refuses_in_memory tree dir scene new (Ok rows) complete known noted why blamed = tt
refuses_in_memory tree dir scene new (Err fault) complete known noted why blamed = refuses_by tree dir scene new fault complete known noted why blamed
