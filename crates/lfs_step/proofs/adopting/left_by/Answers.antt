-- The new blocks are put, and a journal that doesn't stay is replaced.
use Rattle.std.proofs.Common.{◌≡◌, Bool, List, ℕ, false, ap, ap₂, sym, ◌∙◌, subst}
use Rattle.std.specs.Prelude.{Option, if◌then◌else◌}
use Rattle.lfs_block.specs.Disk.{Disk}
use Rattle.lfs_journal.specs.Book.{journal_bytes}
use Rattle.lfs_history.specs.History.{fresh_history}
use Rattle.lfs_history.specs.Opening.{journal_of}
use Rattle.lfs_adopt.specs.Draft.{IsDraft, drafted}
use Rattle.lfs_change.specs.Adopting.{adopted_with}
use Rattle.lfs_step.specs.Adopting.{journal_stays}
use Rattle.lfs_step.proofs.AdoptingLemmas.{no_changes}
use Rattle.lfs_step.proofs.adopting.left_by.Goals as goal

pub put_drafted-requires : goal.put_drafted-requires
put_drafted-requires c =
    subst (λ (os : List (Option (List ℕ))). IsDraft (record { base = c.args.image.disk; blocks = os })) (sym c.deref.ensures.value) c.requires.draft

pub returns-clause-journal : goal.returns-clause-journal
returns-clause-journal c =
    let old = c.args.journal.items in
    let e : Disk = adopted_with c.args.image.disk c.args.adoption in
    let put : c.put_drafted.new.image.disk ≡ e =
    c.put_drafted.ensures.disk
    ∙ ap (λ (os : List (Option (List ℕ))). drafted (record { base = c.args.image.disk; blocks = os })) c.deref.ensures.value in
    let fresh = journal_bytes (journal_of (fresh_history e)) in
    let goes : journal_stays c.args.adoption.changed.items old ≡ false =
    ap₂ journal_stays (sym c.deref-2.ensures.value) (sym c.deref-3.ensures.value) ∙ sym c.journal_stays.ensures ∙ c.if-journal_stays.false in
    let size = c.size.ensures.value ∙ ap (λ (d : Disk). d.size) put in
    let count = c.count.ensures ∙ ap (λ (d : Disk). d.count) put in
    c.done.ensures.kept.1
    ∙ ap journal_bytes (c.new-empty.ensures ∙ no_changes e c.size.result c.count.result c.new-2.result.items size count c.new-2.ensures.items)
    ∙ ap (λ (t : Bool). if t then old else fresh) (sym goes)
