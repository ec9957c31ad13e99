-- A sound outline's blocks are marked, and those of no use are free.
use Rattle.std.proofs.Common.{◌≡◌, List, Bool, false, arith, length, ap, subst, sym, ◌∙◌}
use Rattle.std.specs.Prelude.{replicate, sum_by}
use Rattle.std.proofs.lemmas.List.{length-replicate, with_items_is}
use Rattle.lfs_fs.specs.Directory.{Directory}
use Rattle.lfs_fs.specs.MarksMore.{MarksMore}
use Rattle.lfs_fs.specs.Table.{IsTableOf}
use Rattle.lfs_fs.specs.Unused.{unused}
use Rattle.lfs_fs.specs.Used.{Marks}
use Rattle.lfs_fs.specs.Uses.{directory_uses, uses}
use Rattle.lfs_fs.specs.Volume.{Volume}
use Rattle.lfs_fs.proofs.MarkingLemmas.{marks_sound}
use Rattle.lfs_fs.proofs.UnusedLemmas.{unused_free}
use Rattle.lfs_fs.proofs.outline.Outline.used_blocks.Goals as goal

pub returns-clause-marks : goal.returns-clause-marks
returns-clause-marks c =
    let o = c.args.self.now in
    let new = c.mark_directories.new.used in
    let len : length new ≡ c.in_ok-flags.flags.len = omega (arith, c.mark_directories.ensures.len, c.deref_mut.ensures.len) in
    let flags : c.new.result ≡ new = c.new.ensures ∙ with_items_is c.in_ok-flags.flags new len in
    let old : c.deref_mut.result.now ≡ replicate o.count false =
    c.deref_mut.ensures.value ∙ c.in_ok-flags.ensures.items_if_clones_equal (λ y same. same)
    ∙ ap (λ (v : Volume). replicate v.count false) c.self.view_is in
    let more : MarksMore (replicate o.count false) new (λ b. uses b o) =
    subst (λ (old : List Bool). MarksMore old new (λ b. uses b o)) old
    (subst (λ (v : Volume). MarksMore c.deref_mut.result.now new (λ b. uses b v)) c.self.view_is
    (subst (λ (ds : List Directory). MarksMore c.deref_mut.result.now new (λ b. sum_by (directory_uses b) ds))
    c.deref.ensures.value c.mark_directories.ensures)) in
    subst (λ (used : List Bool). Marks used (λ b. uses b o)) (sym flags) (marks_sound o new c.requires more)

pub returns-clause-free : goal.returns-clause-free
returns-clause-free c =
    let o = c.args.self.now in
    let new = c.mark_directories.new.used in
    let len : length new ≡ c.in_ok-flags.flags.len = omega (arith, c.mark_directories.ensures.len, c.deref_mut.ensures.len) in
    let flags : c.new.result ≡ new = c.new.ensures ∙ with_items_is c.in_ok-flags.flags new len in
    let old : c.deref_mut.result.now ≡ replicate o.count false =
    c.deref_mut.ensures.value ∙ c.in_ok-flags.ensures.items_if_clones_equal (λ y same. same)
    ∙ ap (λ (v : Volume). replicate v.count false) c.self.view_is in
    let more : MarksMore (replicate o.count false) new (λ b. uses b o) =
    subst (λ (old : List Bool). MarksMore old new (λ b. uses b o)) old
    (subst (λ (v : Volume). MarksMore c.deref_mut.result.now new (λ b. uses b v)) c.self.view_is
    (subst (λ (ds : List Directory). MarksMore c.deref_mut.result.now new (λ b. sum_by (directory_uses b) ds))
    c.deref.ensures.value c.mark_directories.ensures)) in
    let long : length new ≡ o.count = more.len ∙ length-replicate o.count false in
    ap unused flags ∙ unused_free o new long (marks_sound o new c.requires more)

pub returns-clause-table : goal.returns-clause-table
returns-clause-table c =
    let o = c.args.self.now in
    let new = c.mark_directories.new.used in
    let len : length new ≡ c.in_ok-flags.flags.len = omega (arith, c.mark_directories.ensures.len, c.deref_mut.ensures.len) in
    let flags : c.new.result ≡ new = c.new.ensures ∙ with_items_is c.in_ok-flags.flags new len in
    let old : c.deref_mut.result.now ≡ replicate o.count false =
    c.deref_mut.ensures.value ∙ c.in_ok-flags.ensures.items_if_clones_equal (λ y same. same)
    ∙ ap (λ (v : Volume). replicate v.count false) c.self.view_is in
    let more : MarksMore (replicate o.count false) new (λ b. uses b o) =
    subst (λ (old : List Bool). MarksMore old new (λ b. uses b o)) old
    (subst (λ (v : Volume). MarksMore c.deref_mut.result.now new (λ b. uses b v)) c.self.view_is
    (subst (λ (ds : List Directory). MarksMore c.deref_mut.result.now new (λ b. sum_by (directory_uses b) ds))
    c.deref.ensures.value c.mark_directories.ensures)) in
    subst (IsTableOf o) (sym flags) (record {
      len = more.len ∙ length-replicate o.count false;
      marks = marks_sound o new c.requires more;
    })
