use Rattle.std.proofs.Common.{sym, ◌∙◌, ap, subst, not}
use Rattle.lfs_host.proofs.BlameLemmas.{noted_is_blamed}
use Rattle.lfs_host.specs.HostCall.{FillingFile}
use Rattle.lfs_host.specs.Scene.{Notes, is_blamed}
use Rattle.lfs_extract.proofs.FillLemmas.{twice, before_by, sent_by, six_same}
use Rattle.lfs_extract.proofs.file_sink.FileSinkSink.write.Goals as goal

pub returns-clause-sent : goal.returns-clause-sent
returns-clause-sent g c =
    sent_by c.fill-count.result c.args.bytes.now (g.F.Known.known c.args.self.now.folder.now).made (g.F.Known.known c.fill-count.new.self).made
    c.fill-count.ensures.filled

pub returns-clause-kept : goal.returns-clause-kept
returns-clause-kept g c =
    let old = g.F.Known.known c.args.self.now.folder.now in
    let new = g.F.Known.known c.fill-count.new.self in
    six_same c.args.self.now.folder.ghost_name _ _ _ _ _ _ _ _ _ _
    (before_by c.fill-count.result c.args.bytes.now old.made new.made c.fill-count.ensures.filled)
    c.fill-count.ensures.kept.0 c.fill-count.ensures.kept.1 c.fill-count.ensures.kept.2
    (noted_is_blamed c.is_none-self.result FillingFile old new (subst (λ b. Notes FillingFile b old new) (ap not c.is_none-self.ensures ∙ twice c.is_none-self.result) c.fill-count.ensures.noted)
    ∙ sym (ap (λ f. is_blamed f old.refused FillingFile) c.requires.works))
