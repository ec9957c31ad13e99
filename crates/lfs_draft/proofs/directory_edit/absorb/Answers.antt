use Rattle.std.proofs.Common.{ℕ, ap, ◌∙◌}
use Rattle.std.specs.Prelude.{bit_xor}
use Rattle.lfs_fs.specs.declared.outline_directory.OutlineParts.{OutlineParts}
use Rattle.lfs_fs.specs.Directory.{Directory, parts}
use Rattle.lfs_fs.specs.State.{delta_of}
use Rattle.lfs_command.specs.DirectoryEdit.{absorb_in}
use Rattle.lfs_draft.proofs.directory_edit.absorb.Goals as goal

pub returns : goal.returns
returns c =
    let d = c.args.directory.now in
    let more = c.delta_of_parts.ensures ∙ ap delta_of (c.deref-3.ensures.value ∙ ap (λ (ps : OutlineParts). ps.more.items) c.deref-2.ensures) in
    let first : OutlineParts → ℕ = λ ps. bit_xor ps.first.delta (delta_of c.gone.inside.parts.value.more.items) in
    let all = c.joined-delta.ensures ∙ ap (bit_xor _) more ∙ ap first c.behind-gone.view_is ∙ ap first c.deref.ensures ∙ ap (λ (gone : Directory). delta_of (parts gone)) c.gone.view_is in
    c.absorb_in.ensures ∙ ap (λ (delta : ℕ). absorb_in delta d.first d.more) all
