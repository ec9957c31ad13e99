use Rattle.std.proofs.Common.{◌≤◌, arith, inl, inr, Option, subst, map, reverse, string_bytes, length}
use Rattle.std.specs.Prelude.{IfSome}
use Rattle.std.proofs.lemmas.Result.{on_ok_weaker, IfErr-weaker}
use Rattle.lfs_extract.specs.declared.walking.TheConstants.{MOST_BYTES}
use Rattle.lfs_host.proofs.BlameLemmas.{noted_refused}
use Rattle.lfs_host.specs.HostTree.{HostTree, IsKind, ReadsEntry}
use Rattle.lfs_extract.specs.FolderRows.{BlamesHost, RefusesFolderRows, most_rows}
use Rattle.lfs_extract.specs.FolderWalk.{EntersFolder, IsHostBlamed, RefusesFolder}
use Rattle.lfs_extract.proofs.WalkStepLemmas.{reading_unread, step_file, step_folder, walk_blamed, walk_missing, walk_other, walk_refused, walk_too_long}
use Rattle.lfs_extract.proofs.walking.FolderWalk.visit.Goals as goal

pub returns-in-Folder-clause-walking : goal.returns-in-Folder-clause-walking
returns-in-Folder-clause-walking g c =
    let known = (g.H.Known.known c.args.host.now).tree in
    let waiting = map (λ s. string_bytes s) (reverse c.args.self.now.waiting.items) in
    let more = map (λ s. string_bytes s) (reverse c.enter.new.self.waiting.items) in
    let dir = c.args.dir.now in
    let name = c.args.name.now in
    let enters : Option HostTree → Type 0 = λ (k : Option HostTree). EntersFolder k (length dir) name c.args.self.now.rows.items
    c.enter.new.self.rows.items waiting more in
    on_ok_weaker c.enter.result (λ (entered : enters (g.H.Known.known c.kind.new.self).tree). step_folder MOST_BYTES known dir name
    c.args.self.now.rows.items c.enter.new.self.rows.items waiting more c.requires (subst enters c.kind.ensures.kept.1 entered))
    c.enter.ensures.entered

pub returns-in-Folder-clause-refused : goal.returns-in-Folder-clause-refused
returns-in-Folder-clause-refused g c =
    let known = (g.H.Known.known c.args.host.now).tree in
    let waiting = map (λ s. string_bytes s) (reverse c.args.self.now.waiting.items) in
    let dir = c.args.dir.now in
    let name = c.args.name.now in
    IfErr-weaker c.enter.result (λ fault. IfSome (g.H.Known.known c.kind.new.self).tree (RefusesFolder name fault))
    (λ fault. RefusesFolderRows known dir fault)
    (λ fault why. walk_refused MOST_BYTES known dir name c.args.self.now.rows.items waiting fault c.requires
    (subst (λ (k : Option HostTree). IfSome k (RefusesFolder name fault)) c.kind.ensures.kept.1 why)) c.enter.ensures.refused

pub returns-in_ok-show-in-File-clause-walking : goal.returns-in_ok-show-in-File-clause-walking
returns-in_ok-show-in-File-clause-walking g c =
    let known = (g.H.Known.known c.args.host.now).tree in
    let waiting = map (λ s. string_bytes s) (reverse c.args.self.now.waiting.items) in
    let name = c.args.name.now in
    let bytes = c.in_ok-bytes-in-File.bytes.items in
    let read : ReadsEntry known name MOST_BYTES bytes = subst (λ (k : Option HostTree). ReadsEntry k name MOST_BYTES bytes)
    c.kind.ensures.kept.1 c.in_ok-bytes-in-File.ensures.read in
    rw c.show.ensures.waiting (step_file MOST_BYTES known c.args.dir.now name bytes c.args.self.now.rows.items c.show.new.self.rows.items
    waiting c.requires read c.in_ok-show-in-File.ensures.shown)

pub returns-in-Other-clause-refused : goal.returns-in-Other-clause-refused
returns-in-Other-clause-refused g c =
    let known = (g.H.Known.known c.args.host.now).tree in
    let waiting = map (λ s. string_bytes s) (reverse c.args.self.now.waiting.items) in
    walk_other MOST_BYTES known c.args.dir.now c.args.name.now c.args.self.now.rows.items waiting c.requires
    (subst (IsKind known c.args.name.now) c.in-Other.is c.in_ok-kind.ensures.kind)

pub returns-then-len-ge-MOST_ROWS-clause-blamed : goal.returns-then-len-ge-MOST_ROWS-clause-blamed
returns-then-len-ge-MOST_ROWS-clause-blamed g c =
    let host = g.H.Known.known c.args.host.now in
    let waiting = map (λ s. string_bytes s) (reverse c.args.self.now.waiting.items) in
    let long : most_rows ≤ length c.args.self.now.rows.items = omega (arith, c.len.ensures) in
    walk_too_long MOST_BYTES host.tree c.args.dir.now c.args.name.now c.args.self.now.rows.items waiting host c.requires long

pub returns-in-Missing-clause-blamed : goal.returns-in-Missing-clause-blamed
returns-in-Missing-clause-blamed g c =
    let known = (g.H.Known.known c.args.host.now).tree in
    let waiting = map (λ s. string_bytes s) (reverse c.args.self.now.waiting.items) in
    walk_missing MOST_BYTES known c.args.dir.now c.args.name.now c.args.self.now.rows.items waiting (g.H.Known.known c.kind.new.self) c.requires
    (subst (IsKind known c.args.name.now) c.in-Missing.is c.in_ok-kind.ensures.kind)

pub returns-in-Folder-clause-blamed : goal.returns-in-Folder-clause-blamed
returns-in-Folder-clause-blamed g c =
    let known = (g.H.Known.known c.args.host.now).tree in
    let seen = (g.H.Known.known c.kind.new.self).tree in
    let new = g.H.Known.known c.enter.new.host in
    let waiting = map (λ s. string_bytes s) (reverse c.args.self.now.waiting.items) in
    IfErr-weaker c.enter.result (λ fault. IsHostBlamed seen c.args.name.now new fault) (λ fault. BlamesHost known c.args.dir.now new fault)
    (λ fault why. walk_blamed MOST_BYTES known seen c.args.dir.now c.args.name.now c.args.self.now.rows.items waiting new fault c.requires
    c.kind.ensures.kept.1 why) c.enter.ensures.blamed

pub returns-in_err-kind-clause-blamed : goal.returns-in_err-kind-clause-blamed
returns-in_err-kind-clause-blamed g c =
    let known = (g.H.Known.known c.args.host.now).tree in
    let waiting = map (λ s. string_bytes s) (reverse c.args.self.now.waiting.items) in
    reading_unread MOST_BYTES known c.args.dir.now c.args.name.now c.args.self.now.rows.items waiting (g.H.Known.known c.kind.new.self)
    c.in_err-kind.field-0.0 c.from_residual.result c.requires (λ is. inl (noted_refused _ _ _ _ is c.in_err-kind.ensures.noted)) c.from_residual.ensures.1

pub returns-in_err-bytes-in-File-clause-blamed : goal.returns-in_err-bytes-in-File-clause-blamed
returns-in_err-bytes-in-File-clause-blamed g c =
    let known = (g.H.Known.known c.args.host.now).tree in
    let waiting = map (λ s. string_bytes s) (reverse c.args.self.now.waiting.items) in
    reading_unread MOST_BYTES known c.args.dir.now c.args.name.now c.args.self.now.rows.items waiting (g.H.Known.known c.read_entry.new.self)
    c.in_err-bytes-in-File.field-0.0 c.from_residual-in_err-bytes-in-File.result c.requires
    (λ is. inr (inr (noted_refused _ _ _ _ is c.in_err-bytes-in-File.ensures.noted))) c.from_residual-in_err-bytes-in-File.ensures.1
