-- One pair more.
use Rattle.std.proofs.Common.{◌≡◌, ℕ, Bool, true, List, [], ◌∷◌, length, get_or, take, Option, Some, None, refl, ap, sym, ◌∙◌, subst, inl, inr}
use Rattle.std.proofs.lemmas.List.{length-set, take_more}
use Rattle.lfs_meta.specs.Body.{Pair}
use Rattle.lfs_fs.specs.DirectoryTable.{look_up}
use Rattle.lfs_fs.specs.Pair.{unordered}
use Rattle.lfs_settle.specs.Reaching.{FlagsNamed, FlagsOne}
use Rattle.lfs_settle.proofs.Reaching.{flags_both, none_named, one_flagged}
use Rattle.lfs_settle.proofs.reached.flag_each.Goals as goal

flags_len : (o : Option ℕ) (flags new : List Bool) (waiting more : List ℕ) → FlagsOne o flags new waiting more → length new ≡ length flags
flags_len None flags new waiting more h = ap length h.0
flags_len (Some i) flags new waiting more (inl h) = ap length h.1
flags_len (Some i) flags new waiting more (inr h) = ap length h.1 ∙ length-set flags i true

pub loop-pair-init : goal.loop-pair-init
loop-pair-init c = record {
  len = refl;
  flags = λ gs listed apart len. none_named gs c.args.reached.now.items c.args.waiting.now.items;
}

pub loop-pair-preserved : goal.loop-pair-preserved
loop-pair-preserved c =
    let named : List Pair = c.args.named.now in
    let i : ℕ = c.loop-pair.pair-index in
    let q : Pair = get_or named i (0, 0) in
    let one : FlagsOne (look_up (unordered q) c.args.table.now.entries) c.loop-pair.reached.items c.flag.new.reached.items
    c.loop-pair.waiting.items c.flag.new.waiting.items =
    subst (λ (k : Pair). FlagsOne (look_up k c.args.table.now.entries) c.loop-pair.reached.items c.flag.new.reached.items
    c.loop-pair.waiting.items c.flag.new.waiting.items) c.unordered.ensures c.in_ok-flag.ensures in
    record {
      len = flags_len (look_up (unordered q) c.args.table.now.entries) c.loop-pair.reached.items c.flag.new.reached.items
          c.loop-pair.waiting.items c.flag.new.waiting.items one ∙ c.loop-pair.invariant.len;
      flags = λ gs listed apart len.
          subst (λ (ps : List Pair). FlagsNamed gs ps c.args.reached.now.items c.flag.new.reached.items c.args.waiting.now.items c.flag.new.waiting.items)
          (sym (take_more named i (0, 0) c.loop-pair-test.true))
          (flags_both gs (take i named) (q ∷ []) c.args.reached.now.items c.loop-pair.reached.items c.flag.new.reached.items
          c.args.waiting.now.items c.loop-pair.waiting.items c.flag.new.waiting.items (c.loop-pair.invariant.flags gs listed apart len)
          (one_flagged gs c.args.table.now.entries q c.loop-pair.reached.items c.flag.new.reached.items c.loop-pair.waiting.items
          c.flag.new.waiting.items listed apart (c.loop-pair.invariant.len ∙ len) one));
    }
