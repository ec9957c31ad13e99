-- The attributes' tags stand behind the struct's.
use Rattle.std.proofs.Common.{◌≡◌, ℕ, Bool, List, ◌++◌, Option, append_assoc, ap, ◌∙◌}
use Rattle.std.proofs.lemmas.Result.{on_ok_weaker}
use Rattle.lfs_tag.specs.Commit.{Item}
use Rattle.lfs_tag.specs.Writing.{items}
use Rattle.lfs_meta.specs.Attribute.{Attributes}
use Rattle.lfs_meta.specs.Entry.{StoredEntry}
use Rattle.lfs_pair.specs.Difference.{Forced, attributes_between, body_tags, entry_between, forced_value, is_struct_forced}
use Rattle.lfs_pair.specs.DifferenceSeen.{forced_seen}
use Rattle.lfs_pair.proofs.entry_between.push_entry_between.Goals as goal

entry_pushed : (forced : Forced) (id : ℕ) (old new : StoredEntry) (body : Bool) (value : Option ℕ) (olds news : Attributes)
    (before embodied after : List Item) → body ≡ is_struct_forced forced new → value ≡ forced_value forced new
    → olds ≡ old.attributes → news ≡ new.attributes → embodied ≡ before ++ body_tags body id old new
    → after ≡ embodied ++ attributes_between value id olds news → after ≡ before ++ entry_between forced id old new
entry_pushed forced id old new body value olds news before embodied after body_is value_is olds_are news_are first second =
    second ∙ ap (λ (ts : List Item). ts ++ attributes_between value id olds news) first
    ∙ append_assoc before (body_tags body id old new) (attributes_between value id olds news)
    ∙ ap (λ (b : Bool). before ++ (body_tags b id old new ++ attributes_between value id olds news)) body_is
    ∙ ap (λ (ts : List Item). before ++ (body_tags (is_struct_forced forced new) id old new ++ ts))
    (ap (λ (v : Option ℕ). attributes_between v id olds news) value_is
    ∙ ap (λ (ones : Attributes). attributes_between (forced_value forced new) id ones news) olds_are
    ∙ ap (attributes_between (forced_value forced new) id old.attributes) news_are)

pub returns : goal.returns
returns c =
    on_ok_weaker c.push_attributes_between.result
    (λ after. entry_pushed (forced_seen c.args.forced) c.args.id c.args.old.now c.args.new.now c.is_struct_forced.result
    c.forced_value.result c.deref.result.now c.deref-2.result.now (items c.args.edits.now.items) (items c.push_body_between.new.edits.items)
    (items c.push_attributes_between.new.edits.items) c.is_struct_forced.ensures c.forced_value.ensures
    (c.deref.ensures.value ∙ ap (λ (e : StoredEntry). e.attributes) c.old.view_is)
    (c.deref-2.ensures.value ∙ ap (λ (e : StoredEntry). e.attributes) c.new.view_is) c.in_ok-push_body_between.ensures after)
    c.push_attributes_between.ensures
