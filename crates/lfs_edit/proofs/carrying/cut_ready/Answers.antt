-- An outline that is ready can be cut.
use Rattle.std.proofs.Common.{ℕ, List, Option, drop, ap, ◌∙◌, subst, arith}
use Rattle.lfs_meta.specs.Body.{Pair}
use Rattle.lfs_draft.specs.LeastSupplies.{made_blocks}
use Rattle.lfs_edit.specs.Carried.{IsCutOver}
use Rattle.lfs_edit.proofs.ReadyLemmas.{known_ready}
use Rattle.lfs_edit.proofs.carrying.cut_ready.Goals as goal

pub split_at-requires : goal.split_at-requires
split_at-requires c =
    let known = known_ready c.carrying_laws.ensures c.requires.led.0 c.requires.led.1 c.requires.led.2 c.args.blocks.now c.args.outline.now c.requires.led.3.ready in
    omega (arith, known.made, c.requires.led.3.made)

pub cut_over-requires-clause-size : goal.cut_over-requires-clause-size
cut_over-requires-clause-size c =
    let known = known_ready c.carrying_laws.ensures c.requires.led.0 c.requires.led.1 c.requires.led.2 c.args.blocks.now c.args.outline.now c.requires.led.3.ready in
    omega (arith, known.frame, c.requires.led.3.ready.holdable.fits.size_fits.1)

pub cut_over-requires-clause-needed : goal.cut_over-requires-clause-needed
cut_over-requires-clause-needed c =
    let known = known_ready c.carrying_laws.ensures c.requires.led.0 c.requires.led.1 c.requires.led.2 c.args.blocks.now c.args.outline.now c.requires.led.3.ready in
    omega (arith, c.split_at.ensures.back_len, known.needed, c.requires.led.3.made)

pub cut_over-requires-clause-once : goal.cut_over-requires-clause-once
cut_over-requires-clause-once c =
    (known_ready c.carrying_laws.ensures c.requires.led.0 c.requires.led.1 c.requires.led.2 c.args.blocks.now c.args.outline.now c.requires.led.3.ready).once

pub cut_over-requires-clause-few : goal.cut_over-requires-clause-few
cut_over-requires-clause-few c =
    (known_ready c.carrying_laws.ensures c.requires.led.0 c.requires.led.1 c.requires.led.2 c.args.blocks.now c.args.outline.now c.requires.led.3.ready).few

pub returns-clause-cut : goal.returns-clause-cut
returns-clause-cut c v command used led = record {
  before = c.args.outline.now;
  ready = led.ready;
  cuts = subst (λ (leading : Option Pair). IsCutOver leading c.args.outline.now (drop (made_blocks v command) c.args.blocks.now)
      c.cut_over.new.outline) led.leads
      (subst (λ (new : List ℕ). IsCutOver c.args.leading c.args.outline.now new c.cut_over.new.outline)
      (c.split_at.ensures.back ∙ ap (λ (n : ℕ). drop n c.args.blocks.now) led.made) c.in_ok-cut_over.ensures.cut);
}
