-- A block written beside another, by its revision the live one.
use Rattle.std.proofs.Common.{◌≡◌, ◌≢◌, ℕ, ◌+◌, ◌-◌, ◌%◌, ◌<◌, ◌≤◌, ◌^◌, Bool, true, false, List, length, refl, ap, sym, ◌∙◌}
use Rattle.std.proofs.Common.{arith, Option, Some, None}
use Rattle.std.specs.Prelude.{option_and_then, option_map, All}
use Rattle.std.specs.List.{AllByRecursion}
use Rattle.std.proofs.lemmas.List.Elements.{recursion_from_All}
use Rattle.lfs_block.specs.Disk.{Disk, IsDisk, block_of, put}
use Rattle.lfs_block.specs.PatchLaws.{BlockPut, BlockPutOther}
use Rattle.lfs_tag.specs.Commit.{Item}
use Rattle.lfs_tag.specs.LogSeen.{LogSeen}
use Rattle.lfs_meta.specs.Body.{Pair}
use Rattle.lfs_meta.specs.Fits.{EntryFits, TailFits}
use Rattle.lfs_pair.specs.Laws.{WrittenPartsReplay, WrittenPartsAreComplete}
use Rattle.lfs_meta.proofs.LiveLemmas.{live_when}
use Rattle.lfs_meta.specs.declared.live_block.LiveBlock.{LiveBlock}
use Rattle.lfs_meta.specs.declared.live_block.LiveBlock.TheVariants.{First, Second, Neither}
use Rattle.lfs_meta.specs.LiveBlock.{revision, is_later, committed, committed_log, first_or, second_or, live_block, live_log, live_tags}
use Rattle.lfs_meta.specs.LiveBlock.{tags_of}
use Rattle.lfs_meta.specs.Part.{StoredPart}
use Rattle.lfs_meta.specs.Replay.{replay}
use Rattle.lfs_meta.specs.Complete.{IsComplete, raw_part}
use Rattle.lfs_pair.specs.Spelling.{part_tags}
use Rattle.lfs_meta.specs.Complete.{complete_part}
use Rattle.lfs_pair.specs.Writing.{part_in, other_than, other_number, revision_by, live_revision}

-- a revision one more is later, and one less isn't
later-next : (r : ℕ) → r < 2 ^ 32 → is_later ((r + 1) % 2 ^ 32) r ≡ true
later-next r h =
    let ahead : ((r + 1) % 2 ^ 32 + 2 ^ 32 - r) % 2 ^ 32 ≡ 1 = omega arith in
    rw ahead refl

later-last : (r : ℕ) → r < 2 ^ 32 → is_later r ((r + 1) % 2 ^ 32) ≡ false
later-last r h =
    let ahead : (r + 2 ^ 32 - (r + 1) % 2 ^ 32) % 2 ^ 32 ≡ 0xffffffff = omega arith in
    rw ahead refl

-- a log that is there is taken, whatever the other choice
first-tags : (one : Option LogSeen) (other : LiveBlock) (ts : List Item) → option_map (λ log. log.tags) one ≡ Some ts
    → option_map (λ log. log.tags) (live_log (first_or one other)) ≡ Some ts
first-tags None other ts e = cc
first-tags (Some log) other ts e = e

second-tags : (two : Option LogSeen) (other : LiveBlock) (ts : List Item) → option_map (λ log. log.tags) two ≡ Some ts
    → option_map (λ log. log.tags) (live_log (second_or two other)) ≡ Some ts
second-tags None other ts e = cc
second-tags (Some log) other ts e = e

not-earlier : (new other : List ℕ) (ts : List Item) (a b : ℕ) → revision other ≡ a → revision new ≡ b → is_later a b ≡ false
    → committed new ≡ Some ts
    → live_tags new other ≡ Some ts
not-earlier new other ts a b other_is new_is order here =
    let earlier : is_later (revision other) (revision new) ≡ false = ap (λ (n : ℕ). is_later n (revision new)) other_is
    ∙ ap (is_later a) new_is ∙ order in
    ap (λ (t : Bool). option_map (λ log. log.tags) (live_log (live_when t (committed_log new) (committed_log other)))) earlier
    ∙ first-tags (committed_log new) (second_or (committed_log other) Neither) ts here

later : (new other : List ℕ) (ts : List Item) (a b : ℕ) → revision other ≡ a → revision new ≡ b → is_later b a ≡ true
    → committed new ≡ Some ts
    → live_tags other new ≡ Some ts
later new other ts a b other_is new_is order here =
    let after : is_later (revision new) (revision other) ≡ true = ap (is_later (revision new)) other_is
    ∙ ap (λ (n : ℕ). is_later n a) new_is ∙ order in
    ap (λ (t : Bool). option_map (λ log. log.tags) (live_log (live_when t (committed_log other) (committed_log new)))) after
    ∙ second-tags (committed_log new) (first_or (committed_log other) Neither) ts here

-- of two logs the one that is there is taken
alone-first : (late : Bool) (one two : Option LogSeen) (ts : List Item) → option_map (λ log. log.tags) one ≡ Some ts
    → option_map (λ log. log.tags) two ≡ None → option_map (λ log. log.tags) (live_log (live_when late one two)) ≡ Some ts
alone-first late None two ts here none = cc
alone-first late (Some log) (Some other) ts here none = cc
alone-first true (Some log) None ts here none = here
alone-first false (Some log) None ts here none = here

alone-second : (late : Bool) (one two : Option LogSeen) (ts : List Item) → option_map (λ log. log.tags) one ≡ None
    → option_map (λ log. log.tags) two ≡ Some ts → option_map (λ log. log.tags) (live_log (live_when late one two)) ≡ Some ts
alone-second late one None ts none here = cc
alone-second late (Some other) (Some log) ts none here = cc
alone-second true None (Some log) ts none here = here
alone-second false None (Some log) ts none here = here

alone-neither : (late : Bool) (one two : Option LogSeen) → option_map (λ log. log.tags) one ≡ None → option_map (λ log. log.tags) two ≡ None
    → option_map (λ log. log.tags) (live_log (live_when late one two)) ≡ None
alone-neither late (Some log) two none other = cc
alone-neither late None (Some log) none other = cc
alone-neither true None None none other = refl
alone-neither false None None none other = refl

-- two blocks without a commit have no live one
pub live_neither : (first second : List ℕ) → committed first ≡ None → committed second ≡ None → live_tags first second ≡ None
live_neither first second none other =
    alone-neither (is_later (revision second) (revision first)) (committed_log first) (committed_log second) none other

-- a block that has a commit is the live one beside one that has none, in both orders
pub live_before : (new other : List ℕ) (ts : List Item) → committed new ≡ Some ts → committed other ≡ None → live_tags new other ≡ Some ts
live_before new other ts here none =
    alone-first (is_later (revision other) (revision new)) (committed_log new) (committed_log other) ts here none

pub live_after : (new other : List ℕ) (ts : List Item) → committed new ≡ Some ts → committed other ≡ None → live_tags other new ≡ Some ts
live_after new other ts here none =
    alone-second (is_later (revision new) (revision other)) (committed_log other) (committed_log new) ts none here

-- a part's tags in the live block are that part
pub read-back : WrittenPartsReplay → WrittenPartsAreComplete → (p : StoredPart) (first second : List ℕ) → All EntryFits p.entries
    → length p.entries ≤ 1000
    → TailFits p.tail → length p.delta ≡ 12 → AllByRecursion IsComplete p.entries → live_tags first second ≡ Some (part_tags p)
    → part_in first second ≡ Some p
read-back replays wholes p first second fits few tail delta complete live =
    let replayed : replay (part_tags p) ≡ Some (raw_part p) = replays p (recursion_from_All EntryFits p.entries fits)
    (omega (arith, few)) tail delta in
    ap (λ (o : Option (List Item)). option_and_then complete_part (option_and_then replay o)) live
    ∙ ap (option_and_then complete_part) replayed
    ∙ wholes p complete

-- a block put in the place of the one that isn't live is the live one
put-second : BlockPut → BlockPutOther → (d : Disk) (pair : Pair) (new : List ℕ) (ts : List Item) (r : ℕ) → IsDisk d → pair.0 ≢ pair.1
    → pair.1 < d.count → length new ≡ d.size → committed new ≡ Some ts → r < 2 ^ 32 → revision (block_of d pair.0) ≡ r
    → revision new ≡ (r + 1) % 2 ^ 32 → tags_of (put pair.1 new d) pair ≡ Some ts
put-second this others d pair new ts r disk apart second len here small live_is new_is =
    ap (λ (x : List ℕ). live_tags x (block_of (put pair.1 new d) pair.1)) (others d pair.1 pair.0 new disk second apart len)
    ∙ ap (live_tags (block_of d pair.0)) (this d pair.1 new disk second len)
    ∙ later new (block_of d pair.0) ts r ((r + 1) % 2 ^ 32) live_is new_is (later-next r small) here

put-first : BlockPut → BlockPutOther → (d : Disk) (pair : Pair) (new : List ℕ) (ts : List Item) (r : ℕ) → IsDisk d → pair.0 ≢ pair.1
    → pair.0 < d.count → length new ≡ d.size → committed new ≡ Some ts → r < 2 ^ 32 → revision (block_of d pair.1) ≡ r
    → revision new ≡ (r + 1) % 2 ^ 32 → tags_of (put pair.0 new d) pair ≡ Some ts
put-first this others d pair new ts r disk apart first len here small live_is new_is =
    let other : pair.1 ≢ pair.0 = λ e. apart (sym e) in
    ap (λ (x : List ℕ). live_tags x (block_of (put pair.0 new d) pair.1)) (this d pair.0 new disk first len)
    ∙ ap (live_tags new) (others d pair.0 pair.1 new disk first other len)
    ∙ not-earlier new (block_of d pair.1) ts r ((r + 1) % 2 ^ 32) live_is new_is (later-last r small) here

put-by : BlockPut → BlockPutOther → (live : LiveBlock) (d : Disk) (pair : Pair) (new : List ℕ) (ts : List Item) (r : ℕ) → IsDisk d
    → pair.0 ≢ pair.1
    → pair.0 < d.count → pair.1 < d.count → length new ≡ d.size → committed new ≡ Some ts → r < 2 ^ 32
    → revision_by live (block_of d pair.0) (block_of d pair.1) ≡ r
    → revision new ≡ (r + 1) % 2 ^ 32 → tags_of (put (other_than live pair) new d) pair ≡ Some ts
put-by this others (First log) d pair new ts r disk apart first second len here small live_is new_is =
    put-second this others d pair new ts r disk apart second len here small live_is new_is
put-by this others (Second log) d pair new ts r disk apart first second len here small live_is new_is =
    put-first this others d pair new ts r disk apart first len here small live_is new_is
put-by this others Neither d pair new ts r disk apart first second len here small live_is new_is =
    put-second this others d pair new ts r disk apart second len here small live_is new_is

pub rewritten-tags : BlockPut → BlockPutOther → (d : Disk) (pair : Pair) (new : List ℕ) (ts : List Item) (r : ℕ) → IsDisk d
    → pair.0 ≢ pair.1
    → pair.0 < d.count → pair.1 < d.count → length new ≡ d.size → committed new ≡ Some ts → r < 2 ^ 32 → live_revision d pair ≡ r
    → revision new ≡ (r + 1) % 2 ^ 32
    → tags_of (put (other_number d pair) new d) pair ≡ Some ts
rewritten-tags this others d pair new ts r disk apart first second len here small live_is new_is =
    put-by this others (live_block (block_of d pair.0) (block_of d pair.1)) d pair new ts r disk apart first second len here small live_is
    new_is
