-- Where lists of runs lead.
use Rattle.std.proofs.Common.{◌≡◌, ℕ, Bool, true, false, List, [], ◌∷◌, Option, Some, None, inl, inr, ap, refl, sym, ◌∙◌, subst}
use Rattle.lfs_history.specs.History.{History, fresh_history}
use Rattle.lfs_request.specs.declared.fault.Fault.{Fault}
use Rattle.lfs_request.specs.declared.outcome.Outcome.{Outcome}
use Rattle.lfs_adopt.specs.Adopted.{IsAdoptedImage}
use Rattle.lfs_adopt.specs.Changed.{changed_blocks}
use Rattle.lfs_block.specs.Disk.{Disk, image_of}
use Rattle.lfs_json.specs.declared.form.Form.{Form}
use Rattle.lfs_change.specs.Change.{Denotes}
use Rattle.lfs_change.proofs.ChangeLemmas.{denoted_present}
use Rattle.lfs_step.specs.declared.step.Step.{Step}
use Rattle.lfs_step.specs.declared.step.Step.TheVariants.{Format, Pack, Ask, Forget, Adopt, Change, Tree}
use Rattle.lfs_step.specs.Adopting.{LeavesTakenOver}
use Rattle.lfs_step.specs.Histories.{Leaves, LeavesAdopted, StepsLeaveHistories}
use Rattle.lfs_step.specs.Outcome.{Given, given}
use Rattle.lfs_step.proofs.HistoriesLeft.{both_stay, does_stay, no_block}
use Rattle.lfs_step.proofs.OutcomeLemmas.{AnswersBy}
use Rattle.lfs_step.specs.Runs.{BothFiles, GoesBy, HasGoodRows, RunsGoOn, left_files}

-- the history to which one run leads
pub record Goes (fault : Option Fault) (step : Step) (g : Given) (outcome : Outcome) (old : History) : Type 0 where
  pub new : History
  pub goes : GoesBy fault outcome.at step g old new
  pub leaves : Leaves g outcome new

-- an image that is taken over begins a history, or stays with the one that it had
goes_over : (form : Form) (replaces : Bool) (g : Given) (outcome : Outcome) (old : History) → Denotes g.size g.image g.journal old
    → LeavesTakenOver replaces g.size g.image g.journal outcome → (t : Bool) → does_stay g outcome ≡ t → LeavesAdopted t g outcome
    → Goes None (Adopt form replaces) g outcome old
goes_over form replaces g outcome old denotes taken true stays leaves =
    let d = image_of g.size g.image in
    let present : d ≡ old.present = sym (denoted_present d g.journal old denotes.1) in
    let same : image_of g.size outcome.image.items ≡ old.present = ap (image_of g.size) (both_stay replaces g outcome taken stays).0 ∙ present in
    let adopted = subst (λ (x : Disk). IsAdoptedImage x old.present) present (subst (IsAdoptedImage d) same taken.adopted) in
    let none = subst (λ (x : Disk). changed_blocks x old.present ≡ []) present
    (subst (λ (x : Disk). changed_blocks d x ≡ []) same (no_block g outcome stays)) in
    record { new = old; goes = (adopted, inr (refl, none)); leaves = leaves old denotes }
goes_over form replaces g outcome old denotes taken false goes leaves =
    let e = image_of g.size outcome.image.items in
    let present = sym (denoted_present (image_of g.size g.image) g.journal old denotes.1) in
    record {
      new = fresh_history e;
      goes = (subst (λ (x : Disk). IsAdoptedImage x e) present taken.adopted, inl refl);
      leaves = leaves;
    }

pub one_goes : StepsLeaveHistories → (fault : Option Fault) (step : Step) (g : Given) (outcome : Outcome) (old : History)
    → HasGoodRows step → Denotes g.size g.image g.journal old → AnswersBy fault step g outcome → Goes fault step g outcome old
one_goes leaves None (Format count limits) g outcome old good denotes answers = record {
  new = fresh_history (image_of g.size outcome.image.items);
  goes = (refl, answers.0);
  leaves = leaves (Format count limits) g outcome answers;
}
one_goes leaves None (Pack count limits rows) g outcome old (packed, are) denotes answers = record {
  new = fresh_history (image_of g.size outcome.image.items);
  goes = (refl, answers.0);
  leaves = leaves (Pack count limits rows) g outcome answers packed are;
}
one_goes leaves None (Ask query form) g outcome old good denotes answers = record {
  new = old;
  goes = refl;
  leaves = leaves (Ask query form) g outcome answers old denotes;
}
one_goes leaves None Forget g outcome old good denotes answers = record {
  new = fresh_history (image_of g.size g.image);
  goes = ap fresh_history (sym (denoted_present (image_of g.size g.image) g.journal old denotes.1));
  leaves = leaves Forget g outcome answers;
}
one_goes leaves None (Adopt form replaces) g outcome old good denotes answers =
    goes_over form replaces g outcome old denotes answers (does_stay g outcome) refl (leaves (Adopt form replaces) g outcome answers)
one_goes leaves None (Change steps) g outcome old good denotes answers =
    let (new, takes, to) = leaves (Change steps) g outcome answers old denotes in
    record { new = new; goes = takes; leaves = to }
one_goes leaves None (Tree changing keep) g outcome old good denotes answers =
    let (new, goes, to) = leaves (Tree changing keep) g outcome answers old denotes in
    record { new = new; goes = goes; leaves = to }
one_goes leaves (Some fault) step g outcome old good denotes answers = record {
  new = old;
  goes = (refl, answers.1);
  leaves =
      subst (λ (l : List ℕ). Denotes g.size l outcome.journal.items old) (sym answers.0.0)
      (subst (λ (l : List ℕ). Denotes g.size g.image l old) (sym answers.0.1) denotes);
}

pub runs_go_on : StepsLeaveHistories → RunsGoOn
runs_go_on leaves size [] first last old good denotes same = record {
  new = old;
  denotes = subst (λ (f : BothFiles). Denotes size f.image f.journal old) (sym same) denotes;
  goes = refl;
}
runs_go_on leaves size (r ∷ rs) first last old good denotes (answers, later) =
    let g = given size first.image first.journal in
    let one = one_goes leaves r.outcome.fault r.step g r.outcome old good.0 denotes answers in
    let to = runs_go_on leaves size rs (left_files r.outcome) last one.new good.1 one.leaves later in
    record { new = to.new; denotes = to.denotes; goes = (one.new, one.goes, one.leaves, to.goes) }
