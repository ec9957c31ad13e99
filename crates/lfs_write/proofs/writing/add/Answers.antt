-- The change is put behind those of blocks with lesser numbers.
use Rattle.std.proofs.Common.{ℕ, List, ap, ◌∙◌, arith, nat_lt}
use Rattle.std.specs.Prelude.{insert}
use Rattle.std.specs.List.{prefix_len}
use Rattle.std.proofs.lemmas.List.Sums.{prefix_len-le-length}
use Rattle.lfs_block.specs.Change.{Change}
use Rattle.lfs_law.proofs.ChangesAt.{insert_change}
use Rattle.lfs_write.proofs.writing.add.Goals as goal

-- how many have lesser numbers
abbrev before : ℕ → List Change → ℕ
before n cs = prefix_len (λ e. nat_lt e.number n) cs

pub insert-requires : goal.insert-requires
insert-requires c =
    omega (
      arith,
      c.place_of-at.ensures,
      c.deref.ensures.len,
      prefix_len-le-length
          (λ (e : Change). nat_lt e.number c.change.inside.number) c.deref.result.now,
    )

pub returns : goal.returns
returns c =
    let cs = c.args.changes.now.items in
    c.in_ok-insert.ensures.items ∙ ap (λ (n : ℕ). insert cs n c.args.change)
    (c.place_of-at.ensures ∙ ap (before c.change.inside.number) c.deref.ensures.value
    ∙ ap (λ (e : Change). before e.number cs) c.change.view_is)
    ∙ insert_change c.args.change cs
