-- The new image's name isn't at hand, or the other image isn't opened, or what that holds is packed.
use Rattle.std.proofs.Common.{◌≡◌, refl, sym, ap, ◌∙◌, inl, inr, map, string_bytes}
use Rattle.std.proofs.lemmas.Result.{err_from_is_err_and}
use Rattle.lfs_command.specs.declared.refusal.Refusal.TheVariants.{Memory}
use Rattle.lfs_exchange.specs.declared.step_kind.StepKind.TheVariants.{Makes}
use Rattle.lfs_host.specs.Scene.{Scene}
use Rattle.lfs_pack.specs.RowText.{pack_text, source_text}
use Rattle.lfs_report.specs.Stop.{stopped_by}
use Rattle.lfs_request.specs.declared.fault.Fault.TheVariants.{Refused}
use Rattle.lfs_step.specs.declared.step.Step.TheVariants.{Pack}
use Rattle.lfs_serve.specs.Program.{as_it_is}
use Rattle.lfs_serve.proofs.RepackingLemmas.{opened_from, packs, refused_from}
use Rattle.lfs_open.proofs.StopLemmas.{stopped_at}
use Rattle.lfs_serve.proofs.StepLemmas.{step_at, claimed_at, handed_from, target_from}
use Rattle.lfs_serve.proofs.repacking.repacked.Goals as goal

pub counted_for-requires-clause-limits : goal.counted_for-requires-clause-limits
counted_for-requires-clause-limits g c = c.or-limits.ensures.range c.requires c.in_ok-opened.ensures.opened.2.range

pub stepped-end-requires-clause-range : goal.stepped-end-requires-clause-range
stepped-end-requires-clause-range g c = c.or-limits.ensures.range c.requires c.in_ok-opened.ensures.opened.2.range

pub told-requires : goal.told-requires
told-requires g c = c.or-limits.ensures.range c.requires c.in_ok-opened.ensures.opened.2.range

pub returns-in_err-handed-clause-ended : goal.returns-in_err-handed-clause-ended
returns-in_err-handed-clause-ended g c =
    let fault = c.in_err-handed.field-0.0 in
    let p = err_from_is_err_and c.from_residual.result c.from_residual.ensures.1 in
    let kept = c.taken_up.ensures.kept.0 in
    inr ((kept.0, kept.2), (fault, stopped_at c.from_residual.result fault p.0 p.1 p.2, inr (Makes, refl, c.in_err-handed.ensures.refused)))

pub returns-in_err-opened-clause-ended : goal.returns-in_err-opened-clause-ended
returns-in_err-opened-clause-ended g c =
    let old : Scene = g.H.Known.known c.args.host.now in
    let mid : Scene = g.H.Known.known c.taken_up.new.host in
    let new : Scene = g.H.Known.known c.open_source.new.host in
    let stop = c.in_err-opened.field-0.0 in
    let p = err_from_is_err_and c.from_residual-in_err-opened.result c.from_residual-in_err-opened.ensures.1 in
    let first = c.taken_up.ensures.kept.0 in
    let then = c.open_source.ensures.kept.0 in
    let refused = refused_from c.args.source.now mid old new stop.fault first.0 c.in_err-opened.ensures.refused in
    inr ((then.0 ∙ first.0, then.2 ∙ first.2), (stop.fault, stopped_at c.from_residual-in_err-opened.result stop.fault p.0 p.1 (ap (λ s. s.fault) p.2), inl refused))

pub returns-in_err-rows-clause-ended : goal.returns-in_err-rows-clause-ended
returns-in_err-rows-clause-ended g c =
    let on = c.from_residual-in_err-rows in
    let p = err_from_is_err_and on.result on.ensures.1 in
    let first = c.taken_up.ensures.kept.0 in
    let then = c.open_source.ensures.kept.0 in
    inr ((then.0 ∙ first.0, then.2 ∙ first.2), (Refused Memory, stopped_at on.result (Refused Memory) p.0 p.1 p.2, inl (inl (inl refl))))

pub returns-in_err-count-clause-ended : goal.returns-in_err-count-clause-ended
returns-in_err-count-clause-ended g c =
    let on = c.from_residual-in_err-count in
    let p = err_from_is_err_and on.result on.ensures.1 in
    let first = c.taken_up.ensures.kept.0 in
    let then = c.open_source.ensures.kept.0 in
    inr ((then.0 ∙ first.0, then.2 ∙ first.2), (Refused Memory, stopped_at on.result (Refused Memory) p.0 p.1 p.2, inl (inl (inl refl))))

pub returns-clause-ended : goal.returns-clause-ended
returns-clause-ended g c =
    let old : Scene = g.H.Known.known c.args.host.now in
    let by_taken : Scene = g.H.Known.known c.taken_up.new.host in
    let mid : Scene = g.H.Known.known c.open_source.new.host in
    let new : Scene = g.H.Known.known c.stepped-end.new.host in
    let request = c.args.request.now in
    let source = c.args.source.now in
    let o = c.in_ok-opened.opened in
    let rows = c.as_slice-rows.result.now in
    let first = c.taken_up.ensures.kept.0 in
    let then = c.open_source.ensures.kept.0 in
    let texts : map pack_text rows ≡ map (source_text c.args.most) o.rows.items =
    ap (map pack_text) c.as_slice-rows.ensures.value ∙ c.in_ok-rows.ensures ∙ ap (map (source_text c.args.most)) c.deref.ensures.value in
    let packed = packs source c.args.extent c.args.limits c.args.most request.size old.files c.in_ok-count.count c.or-limits.result rows o
    (opened_from source by_taken.files old.files o first.0 c.in_ok-opened.ensures.opened) texts c.or-limits.ensures.limits c.in_ok-count.ensures in
    let step = Pack c.in_ok-count.count c.or-limits.result c.as_slice-rows.result in
    let ends = step_at step (as_it_is request.takes_older) request.size request.image.now mid old new (stopped_by c.told.result)
    (stopped_by c.stepped-end.result) (then.0 ∙ first.0) (then.2 ∙ first.2) c.told.ensures c.stepped-end.ensures.ended in
    inl (step, packed, ends)

pub returns-in_err-handed-clause-rest : goal.returns-in_err-handed-clause-rest
returns-in_err-handed-clause-rest g c =
    let kept = c.taken_up.ensures.kept in
    ((λ _. kept.0.1), (λ _. kept.2))

pub returns-in_err-opened-clause-rest : goal.returns-in_err-opened-clause-rest
returns-in_err-opened-clause-rest g c =
    let first = c.taken_up.ensures.kept in
    let then = c.open_source.ensures.kept in
    ((λ _. then.0.1 ∙ first.0.1), (λ _. then.2 ∙ first.2))

pub returns-in_err-rows-clause-rest : goal.returns-in_err-rows-clause-rest
returns-in_err-rows-clause-rest g c =
    let first = c.taken_up.ensures.kept in
    let then = c.open_source.ensures.kept in
    ((λ _. then.0.1 ∙ first.0.1), (λ _. then.2 ∙ first.2))

pub returns-in_err-count-clause-rest : goal.returns-in_err-count-clause-rest
returns-in_err-count-clause-rest g c =
    let first = c.taken_up.ensures.kept in
    let then = c.open_source.ensures.kept in
    ((λ _. then.0.1 ∙ first.0.1), (λ _. then.2 ∙ first.2))

pub returns-clause-rest : goal.returns-clause-rest
returns-clause-rest g c =
    let first = c.taken_up.ensures.kept in
    let then = c.open_source.ensures.kept in
    ((λ _. c.stepped-end.ensures.typed ∙ then.0.1 ∙ first.0.1), (λ _. c.stepped-end.ensures.made ∙ then.2 ∙ first.2))

pub stepped-end-requires-clause-target : goal.stepped-end-requires-clause-target
stepped-end-requires-clause-target g c =
    let mid : Scene = g.H.Known.known c.taken_up.new.host in
    let new : Scene = g.H.Known.known c.open_source.new.host in
    target_from c.args.request.now.image.now (string_bytes c.in_ok-handed.handed.target) mid.files new.files (sym c.open_source.ensures.kept.0.0)
    c.in_ok-handed.ensures.target

pub stepped-end-requires-clause-claimed : goal.stepped-end-requires-clause-claimed
stepped-end-requires-clause-claimed g c =
    let mid : Scene = g.H.Known.known c.taken_up.new.host in
    let new : Scene = g.H.Known.known c.open_source.new.host in
    let at = string_bytes c.in_ok-handed.handed.target in
    claimed_at c.in_ok-handed.handed.kind mid new at at refl c.open_source.ensures.kept.3 c.in_ok-handed.ensures.claimed

pub stepped-end-requires-clause-handed : goal.stepped-end-requires-clause-handed
stepped-end-requires-clause-handed g c =
    let handed = c.in_ok-handed.handed in
    let mid : Scene = g.H.Known.known c.taken_up.new.host in
    let new : Scene = g.H.Known.known c.open_source.new.host in
    handed_from handed.kind 0 c.args.request.now.image.now mid new (record { image = handed.image.items; journal = handed.journal.items })
    (sym c.open_source.ensures.kept.0.0) c.in_ok-handed.ensures.handed

pub stepped-end-requires-clause-kind : goal.stepped-end-requires-clause-kind
stepped-end-requires-clause-kind g c = c.in_ok-handed.ensures.kind
