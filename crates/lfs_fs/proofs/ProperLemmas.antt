-- What stands at the paths of a sound volume.
use Rattle.std.proofs.Common.{◌≡◌, Some, sym, subst}
use Rattle.std.specs.Prelude.{All}
use Rattle.std.proofs.lemmas.List.Elements.{All-nil, All-contains, All-push}
use Rattle.lfs_meta.specs.Name.{Name, IsName}
use Rattle.lfs_fs.specs.Directory.{Directory, entries, begins_at}
use Rattle.lfs_fs.specs.Entry.{Entry}
use Rattle.lfs_fs.specs.Path.{Path}
use Rattle.lfs_fs.specs.Sound.{IsProper, IsSound}
use Rattle.lfs_fs.specs.Tree.{entry_at}
use Rattle.lfs_fs.specs.Volume.{Volume}
use Rattle.lfs_fs.proofs.EntryAtLemmas.{StandsBelow, by_last_name, found, stands_below}

-- an entry below a directory is proper
pub proper_below : (v : Volume) → IsSound v → (p : Path) (n : Name) (e : Entry) → StandsBelow v p n e → IsProper v.limits e
proper_below v sound p n e s =
    let member = (found (begins_at s.pair) v.directories s.directory s.begins).0 in
    let proper = All-contains (λ (d : Directory). All (IsProper v.limits) (entries d)) v.directories s.directory sound.proper member in
    All-contains (IsProper v.limits) (entries s.directory) e proper s.member

-- the names on the way to an entry are names
pub names_of_path : (v : Volume) → IsSound v → (p : Path) (e : Entry) → entry_at v p ≡ Some e → All IsName p
names_of_path v sound =
    by_last_name (λ (p : Path). (e : Entry) → entry_at v p ≡ Some e → All IsName p) (λ e there. All-nil IsName)
    (λ p n above e there.
    let s = stands_below v p n e there in
    All-push IsName p n (above s.above s.there) (subst IsName (sym s.named) (proper_below v sound p n e s).name))
