-- The directory of the pair, where there is one.
use Rattle.std.proofs.Common.{◌≡◌, ◌==◌, List, length, ap, sym, ◌∙◌}
use Rattle.std.specs.List.{position}
use Rattle.std.specs.Prelude.{slice_index_or}
use Rattle.lfs_fs.specs.Directory.{Directory, begins_at, entries}
use Rattle.lfs_fs.specs.Volume.{Volume}
use Rattle.lfs_command.specs.Verdict.{is_bare}
use Rattle.lfs_draft.proofs.BareDirectories.{bare_at, bare_nowhere}
use Rattle.lfs_draft.proofs.bare.is_bare.Goals as goal

pub returns-in-Some-directory_of : goal.returns-in-Some-directory_of
returns-in-Some-directory_of c =
    let v : Volume = c.args.outline.now in
    let all : c.outline.inside.directories.items ≡ v.directories = ap (λ (v : Volume). v.directories) c.outline.view_is in
    let same : c.deref.result.now ≡ v.directories = c.deref.ensures.value ∙ all in
    c.is_empty.ensures
    ∙ ap (λ (d : Directory). length (entries d) == 0)
    (c.index.ensures ∙ ap (λ (ds : List Directory). slice_index_or ds c.in-Some-directory_of.at c.index.result.now) all)
    ∙ sym (ap (is_bare v) c.in-Some.is
    ∙ bare_at v c.in-Some.pair c.in-Some-directory_of.at c.index.result.now
    (ap (position (begins_at c.in-Some.pair)) (sym same) ∙ sym c.directory_of.ensures ∙ c.in-Some-directory_of.is))

pub returns-in-None : goal.returns-in-None
returns-in-None c =
    let v : Volume = c.args.outline.now in
    let same : c.deref.result.now ≡ v.directories = c.deref.ensures.value ∙ ap (λ (v : Volume). v.directories) c.outline.view_is in
    sym (ap (is_bare v) c.in-Some.is
    ∙ bare_nowhere v c.in-Some.pair (ap (position (begins_at c.in-Some.pair)) (sym same) ∙ sym c.directory_of.ensures ∙ c.in-None.is))
