-- A step that changes the image, takes it over or recounts its changes, reads the journal that is found.
use Rattle.std.proofs.Common.{inl, inr}
use Rattle.std.proofs.lemmas.Result.{IfErr-weaker}
use Rattle.lfs_exchange.proofs.handing.journal_of.Goals as goal

pub returns-in-Changes-clause-journal : goal.returns-in-Changes-clause-journal
returns-in-Changes-clause-journal g c =
    elim c.in-Changes.is [
      | inl changes ↦ rw changes c.find_journal.ensures.journal
      | inr (inl recounts) ↦ rw recounts c.find_journal.ensures.journal
      | inr (inr adopts) ↦ rw adopts c.find_journal.ensures.journal
    ]

pub returns-in-Changes-clause-refused : goal.returns-in-Changes-clause-refused
returns-in-Changes-clause-refused g c =
    elim c.in-Changes.is [
      | inl changes ↦ rw changes (IfErr-weaker c.find_journal.result _ _ (λ f why. inr why) c.find_journal.ensures.refused)
      | inr (inl recounts) ↦ rw recounts (IfErr-weaker c.find_journal.result _ _ (λ f why. inr why) c.find_journal.ensures.refused)
      | inr (inr adopts) ↦ rw adopts (IfErr-weaker c.find_journal.result _ _ (λ f why. inr why) c.find_journal.ensures.refused)
    ]
