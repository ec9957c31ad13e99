-- The copy is written whole.
use Rattle.std.proofs.Common.{◌≡◌, ◌∙◌, ℕ, true, List, length, ap, subst, sym, arith}
use Rattle.lfs_tag.specs.Commit.{Item}
use Rattle.lfs_tag.specs.Log.{IsLog}
use Rattle.lfs_tag.specs.LogSeen.{log_seen}
use Rattle.lfs_tag.specs.Reading.{log_of}
use Rattle.lfs_tag.specs.Writing.{items}
use Rattle.lfs_pair.specs.Appending.{IsLonger, has_room}
use Rattle.lfs_pair.proofs.LogLemmas.{written_complete}
use Rattle.lfs_pair.proofs.appending.longer.Goals as goal

pub lengthen-requires : goal.lengthen-requires
lengthen-requires c =
    let copy : c.args.block.now ≡ c.deref_mut.result.now = sym (c.deref_mut.ensures.value ∙ c.in_ok-new.ensures.items) in
    record {
      log = subst (λ (b : List ℕ). IsLog b (log_of b).commits (log_of b).rest) copy c.log_stands.ensures;
      end = c.requires.end ∙ ap (λ (b : List ℕ). (log_seen b).end) copy;
      last = c.requires.last ∙ ap (λ (b : List ℕ). (log_seen b).last) copy;
      room = subst (λ (b : List ℕ). has_room (length b) (log_seen b) (items c.args.edits.now) ≡ true) copy c.requires.room;
    }

pub returns : goal.returns
returns c =
    let ts : List Item = items c.args.edits.now in
    let copy : c.deref_mut.result.now ≡ c.args.block.now = c.deref_mut.ensures.value ∙ c.in_ok-new.ensures.items in
    let long : IsLonger ts c.args.block.now c.lengthen.new.block =
    subst (λ (b : List ℕ). IsLonger ts b c.lengthen.new.block) copy c.lengthen.ensures in
    let len : c.in_ok-new.new.len ≡ length c.lengthen.new.block =
    omega (arith, long.len, c.in_ok-new.ensures.len, ap length c.in_ok-new.ensures.items) in
    subst (IsLonger ts c.args.block.now)
    (sym (written_complete c.in_ok-new.new.len c.lengthen.new.block c.in_ok-new.new.items len)) long
