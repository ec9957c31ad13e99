-- What differs is sent, or only looked for.
use Rattle.std.proofs.Common.{Option, subst, sym}
use Rattle.lfs_json.specs.declared.form.Form.{Form}
use Rattle.lfs_step.specs.Comparing.{form_of, image_difference, said_text}
use Rattle.std.specs.Io.KnownBytes.{Appends}
use Rattle.lfs_listing.proofs.BufferLemmas.{under_way}
use Rattle.lfs_listing.proofs.UnsentLemmas.{refused}
use Rattle.lfs_sink.proofs.SendLemmas.{appends_none}
use Rattle.lfs_step.proofs.comparing.say_difference.Goals as goal

pub returns-in_err-have_image_difference-in-None-clause-sent : goal.returns-in_err-have_image_difference-in-None-clause-sent
returns-in_err-have_image_difference-in-None-clause-sent g c =
    refused c.from_residual.result _ _ _ _ _ c.from_residual.ensures.1 (under_way (g.S.Sink.sent c.args.out.now) _)

pub returns-in_ok-have_image_difference-in-None-clause-sent : goal.returns-in_ok-have_image_difference-in-None-clause-sent
returns-in_ok-have_image_difference-in-None-clause-sent g c =
    let complete = image_difference (form_of c.args.said) c.args.first.now.disk.now.disk c.args.first.now.mounted.now
    c.args.second.now.disk.now.disk c.args.second.now.mounted.now in
    let sent = g.S.Sink.sent c.args.out.now in
    subst (λ (said : Option Form). Appends sent sent (said_text said complete)) (sym c.in-None.is) (appends_none sent)
