-- Two runs along the same steps, as lists: what `Walks` says of tapes and of all hosts.
use Rattle.std.specs.Prelude.{ℕ, if◌then◌else◌, Bool, true, false, List, [], ◌∷◌, map, bit_xor, slice_index}
use Rattle.vd_base.specs.declared.ids.HostId.{HostId}
use Rattle.vd_tape.specs.declared.deal_items.items.Triple.{Triple}
use Rattle.vd_execution.specs.declared.instructions.Reg.{Reg}
use Rattle.vd_execution.specs.Joint.{Part as HostPart, turns}
use Rattle.vd_views.specs.Items.{raised, sum_item, xor_item, pair_item}
use Rattle.vd_views.specs.Views.{alone}
use Rattle.vd_views.specs.Excused.{across, if_both}
use Rattle.vd_excuse_walk.specs.declared.equivocation_laws.step.Operands.{Operands}
use Rattle.vd_excuse_walk.specs.declared.equivocation_laws.step.Part.{Part}
use Rattle.vd_excuse_walk.specs.declared.equivocation_laws.step.Hidden.{Hidden}
use Rattle.vd_excuse_walk.specs.declared.equivocation_laws.step.Hidden.TheVariants.{Product, Bits, Word}
use Rattle.vd_excuse_walk.specs.declared.equivocation_laws.step.Step.{Step}
use Rattle.vd_excuse_walk.specs.declared.equivocation_laws.step.Step.TheOpen.{Step-F}
use Rattle.vd_excuse_walk.specs.declared.equivocation_laws.step.Step.TheFolds.{fold-Step}
use Rattle.vd_excuse_runs.specs.declared.side.Side.{Side}
use Rattle.vd_excuse_runs.specs.Sides.{next_triple, next_bits, next_pair, shared_triple, shared_bits, shared_pair, triple_words, pair_words, with_triple, with_bits, with_pair}
use Rattle.vd_excuse_runs.specs.Runs.{side_at, put_side, acted, is_other, begun}
use Rattle.vd_excuse_walk.specs.Items.{triple_of, pair_of}
use Rattle.vd_excuse_walk.specs.declared.walker.Walker.{Walker}
use Rattle.vd_excuse_walk.specs.declared.walker.Choice.{Choice}
use Rattle.vd_excuse_walk.specs.declared.walker.Choice.TheVariants as choice

abbrev pub word_at : List Side → HostId → Reg → ℕ
word_at run h r = slice_index (side_at run h.0).registers r.0

-- ---- items

-- the host's next triple hides its operands of the second run as that of the first run hid those of the first
abbrev pub product_hidden : Operands → Walker → Walker
product_hidden o d =
    let theirs : Triple = shared_triple (side_at d.second d.host.0) o.host (side_at d.second o.host.0).taken.triples in
    let item : Triple = triple_of (sum_item (triple_words (next_triple (side_at d.first o.host.0) d.host)) (triple_words theirs)
    (word_at d.first o.host o.x) (word_at d.second o.host o.x) (word_at d.first o.host o.y) (word_at d.second o.host o.y)) in
    record d { second = put_side d.second o.host.0 (with_triple d.host item (side_at d.second o.host.0)) }

-- and so with bits
abbrev pub bits_hidden : Operands → Walker → Walker
bits_hidden o d =
    let theirs : Triple = shared_bits (side_at d.second d.host.0) o.host (side_at d.second o.host.0).taken.bits in
    let item : Triple = triple_of (xor_item (triple_words (next_bits (side_at d.first o.host.0) d.host)) (triple_words theirs)
    (word_at d.first o.host o.x) (word_at d.second o.host o.x) (word_at d.first o.host o.y) (word_at d.second o.host o.y)) in
    record d { second = put_side d.second o.host.0 (with_bits d.host item (side_at d.second o.host.0)) }

-- the word of two parts
abbrev pub word_of : Part → Part → List Side → ℕ
word_of p q run = bit_xor (word_at run p.host p.word) (word_at run q.host q.word)

-- the dealt word that masks it
abbrev pub dealt_word : Part → Part → List Side → ℕ
dealt_word p q run = bit_xor (next_pair (side_at run p.host.0) q.host).x (next_pair (side_at run q.host.0) p.host).x

-- the pair of host k: the dealt word rises by what the word that is converted rises
abbrev pub word_hidden : Part → Part → HostId → Walker → Walker
word_hidden p q k d =
    let dealt : ℕ = raised (dealt_word p q d.first) (word_of p q d.first) (word_of p q d.second) in
    let theirs = shared_pair (side_at d.second d.host.0) k (side_at d.second k.0).taken.pairs in
    record d { second = put_side d.second k.0 (with_pair d.host (pair_of (pair_item dealt (pair_words theirs))) (side_at d.second k.0)) }

-- where the one of two hosts looks and the other does not, the other's item
abbrev pub hidden : Hidden → Walker → Walker
hidden (Product m n) d = across (alone d.host.0 m.host.0) (alone d.host.0 n.host.0) (product_hidden n d) (product_hidden m d) d
hidden (Bits m n) d = across (alone d.host.0 m.host.0) (alone d.host.0 n.host.0) (bits_hidden n d) (bits_hidden m d) d
hidden (Word p q) d = across (alone d.host.0 p.host.0) (alone d.host.0 q.host.0) (word_hidden p q q.host d) (word_hidden p q p.host d) d

-- ---- steps

-- what a step does in one run, and in both
pub record DataWalk : Type 0 where
  pub alone : List Side → List Side
  pub both : Walker → Walker

abbrev pub all_alone : List DataWalk → List Side → List Side
all_alone [] run = run
all_alone (x ∷ xs) run = all_alone xs (x.alone run)

abbrev pub all_both : List DataWalk → Walker → Walker
all_both [] d = d
all_both (x ∷ xs) d = all_both xs (x.both d)

abbrev pub either_alone : List HostPart → List DataWalk → List DataWalk → List Side → List Side
either_alone ps first other run = if is_other ps run then all_alone other run else all_alone first run

abbrev pub turn_alone : List HostPart → List DataWalk → ℕ → List Side → List Side
turn_alone ps body i run = all_alone body (begun ps i run)

abbrev pub both_begun : List HostPart → ℕ → Walker → Walker
both_begun ps i d = record d { first = begun ps i d.first; second = begun ps i d.second }

abbrev pub both_acted : (List Side → List Side) → Walker → Walker
both_acted f d = record d { first = f d.first; second = f d.second }

-- which part of a branch both runs take, by their guards
abbrev pub choice_of : Bool → Bool → Choice
choice_of true true = choice.Other
choice_of false false = choice.First
choice_of true false = choice.Parted
choice_of false true = choice.Parted

-- a branch: in it nothing is changed where the runs part
abbrev pub both_either : List HostPart → List DataWalk → List DataWalk → Walker → Walker
both_either ps first other d =
    if_both (is_other ps d.first) (is_other ps d.second) (all_both other d) (all_both first d) (both_acted (either_alone ps first other) d)

abbrev pub both_turn : List HostPart → List DataWalk → ℕ → Walker → Walker
both_turn ps body i d = all_both body (both_begun ps i d)

abbrev pub data_step : Step-F DataWalk → DataWalk
data_step (Step-F.Hide x) = record { alone = λ run. run; both = hidden x }
data_step (Step-F.Act a) = record { alone = acted a; both = both_acted (acted a) }
data_step (Step-F.Branch ps first other) = record { alone = either_alone ps first other; both = both_either ps first other }
data_step (Step-F.Loop ps count body) = record { alone = turns (turn_alone ps body) count 0; both = turns (both_turn ps body) count 0 }

abbrev pub data_walk : Step → DataWalk
data_walk = fold-Step DataWalk data_step

abbrev pub data_walks : List Step → List DataWalk
data_walks steps = map data_walk steps
