-- Two runs along the same steps, the second by a deal that is changed on the way.
use Rattle.std.specs.Prelude.{ℕ, if◌then◌else◌, List, [], ◌∷◌, map, bit_xor}
use Rattle.vd_execution.specs.Step.{Source, Pairs}
use Rattle.vd_execution.specs.World.{Tape}
use Rattle.vd_execution.specs.Joint.{Part as HostPart, Hosts, is_other, turn_begun, turns}
use Rattle.vd_execution.specs.Acts.{run_act}
use Rattle.vd_execution.specs.Gadgets.{Sharing, BySums, ByXors, source_of}
use Rattle.vd_views.specs.Views.{Coalition}
use Rattle.vd_views.specs.Hiding.{next_item}
use Rattle.vd_views.specs.Items.{item_for, pair_item, raised}
use Rattle.vd_views.specs.Excused.{with_item, across, if_both}
use Rattle.vd_execution.specs.Registers.{nth}
use Rattle.vd_excuse_walk.specs.declared.equivocation_laws.step.Operands.{Operands}
use Rattle.vd_excuse_walk.specs.declared.equivocation_laws.step.Part.{Part}
use Rattle.vd_excuse_walk.specs.declared.equivocation_laws.step.Hidden.{Hidden}
use Rattle.vd_excuse_walk.specs.declared.equivocation_laws.step.Hidden.TheVariants.{Product, Bits, Word}
use Rattle.vd_excuse_walk.specs.declared.equivocation_laws.step.Step.{Step}
use Rattle.vd_excuse_walk.specs.declared.equivocation_laws.step.Step.TheOpen.{Step-F}
use Rattle.vd_excuse_walk.specs.declared.equivocation_laws.step.Step.TheFolds.{fold-Step}

-- both runs: the first goes by a deal that stays, the second by this one
pub record Both : Type 0 where
  pub deal : Tape
  pub first : Hosts
  pub second : Hosts

-- ---- one item

-- the host's next item hides its operands of the second run as its item of the first run hid those of the first
abbrev pub masked_again : ℕ → Tape → Sharing → Operands → Both → Tape
masked_again h t sharing o r =
    let k : ℕ = o.host.0 in
    let s : Source = source_of sharing h in
    let i : ℕ = (r.second k).cursors s in
    with_item r.deal k s i
    (item_for sharing (next_item t r.first k s) (r.deal h (source_of sharing k) i)
    ((r.first k).registers o.x.0) ((r.second k).registers o.x.0) ((r.first k).registers o.y.0) ((r.second k).registers o.y.0))

-- the word of two parts
abbrev pub word_of : Part → Part → Hosts → ℕ
word_of p q w = bit_xor ((w p.host.0).registers p.word.0) ((w q.host.0).registers q.word.0)

-- the dealt word that masks it
abbrev pub dealt_word : Part → Part → Tape → Hosts → ℕ
dealt_word p q t w = bit_xor (nth (next_item t w p.host.0 (Pairs q.host.0)) 1) (nth (next_item t w q.host.0 (Pairs p.host.0)) 1)

-- the pair of host k: the dealt word rises by what the word that is converted rises
abbrev pub paired_again : ℕ → Tape → Part → Part → ℕ → Both → Tape
paired_again h t p q k r =
    let i : ℕ = (r.second k).cursors (Pairs h) in
    with_item r.deal k (Pairs h) i (pair_item (raised (dealt_word p q t r.first) (word_of p q r.first) (word_of p q r.second)) (r.deal h (Pairs k) i))

-- where one of the two hosts looks and the other does not, the item of the other one
abbrev pub hidden_again : Coalition → Tape → Hidden → Both → Tape
hidden_again K t (Product m n) r = across (K m.host.0) (K n.host.0) (masked_again m.host.0 t BySums n r) (masked_again n.host.0 t BySums m r) r.deal
hidden_again K t (Bits m n) r = across (K m.host.0) (K n.host.0) (masked_again m.host.0 t ByXors n r) (masked_again n.host.0 t ByXors m r) r.deal
hidden_again K t (Word p q) r = across (K p.host.0) (K q.host.0) (paired_again p.host.0 t p q q.host.0 r) (paired_again q.host.0 t p q p.host.0 r) r.deal

-- ---- steps

-- what a step does in one run, and in both
pub record Walk : Type 0 where
  pub run : Tape → Hosts → Hosts
  pub both : Both → Both

abbrev pub run_steps : List Walk → Tape → Hosts → Hosts
run_steps [] t w = w
run_steps (x ∷ xs) t w = run_steps xs t (x.run t w)

abbrev pub both_steps : List Walk → Both → Both
both_steps [] r = r
both_steps (x ∷ xs) r = both_steps xs (x.both r)

abbrev pub run_either : List HostPart → List Walk → List Walk → Tape → Hosts → Hosts
run_either ps first other t w = if is_other ps w then run_steps other t w else run_steps first t w

abbrev pub both_begun : List HostPart → ℕ → Both → Both
both_begun ps i r = record { deal = r.deal; first = turn_begun ps i r.first; second = turn_begun ps i r.second }

module _ (K : Coalition) (t : Tape) where
  -- a branch: in it nothing is changed where the runs part
  abbrev pub both_either : List HostPart → List Walk → List Walk → Both → Both
  both_either ps first other r =
      if_both (is_other ps r.first) (is_other ps r.second) (both_steps other r) (both_steps first r)
      (record { deal = r.deal; first = run_either ps first other t r.first; second = run_either ps first other r.deal r.second })

  abbrev pub step_walk : Step-F Walk → Walk
  step_walk (Step-F.Hide x) = record { run = λ u w. w; both = λ r. record { deal = hidden_again K t x r; first = r.first; second = r.second } }
  step_walk (Step-F.Act a) = record {
    run = λ u w. run_act u a w;
    both = λ r. record { deal = r.deal; first = run_act t a r.first; second = run_act r.deal a r.second };
  }
  step_walk (Step-F.Branch ps first other) = record { run = λ u w. run_either ps first other u w; both = λ r. both_either ps first other r }
  step_walk (Step-F.Loop ps count body) = record {
    run = λ u w. turns (λ i v. run_steps body u (turn_begun ps i v)) count 0 w;
    both = λ r. turns (λ i z. both_steps body (both_begun ps i z)) count 0 r;
  }

  abbrev pub walk : Step → Walk
  walk = fold-Step Walk step_walk

  abbrev pub walks : List Step → List Walk
  walks steps = map walk steps
