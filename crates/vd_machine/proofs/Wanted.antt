-- A packet is wanted where an instruction needs one, and no action alone needs one.
use Rattle.std.proofs.Common.{◌≡◌, ℕ, Bool, true, false, sym, ap, ◌∙◌}
use Rattle.std.specs.Prelude.{nat_eq, nat_lt, if◌then◌else◌}
use Rattle.vd_base.specs.declared.ids.HostId.{HostId}
use Rattle.vd_base.specs.HostSets.{host}
use Rattle.vd_execution.specs.declared.instructions.Action.{Action}
use Rattle.vd_execution.specs.declared.instructions.Action.TheVariants as action
use Rattle.vd_execution.specs.Registers.{Registers}
use Rattle.vd_execution.specs.Step.{Source, Inputs, OwnWords, Triples, BitTriples, Pairs, Cursors, Need, Nothing, Item, Packet, Unequal, Ended, need_of_action}
use Rattle.vd_machine.specs.declared.lists.Lists.{Lists}
use Rattle.vd_machine.specs.declared.want.Want.TheVariants as want
use Rattle.vd_machine.specs.Wants.{want_of, short, count_of}

no_words : (b : Bool) (s : Source) (i j : ℕ) (p : HostId) (n : ℕ) → want.Words p n ≡ (if b then want.Nothing else short s i j) → ⊥
no_words true s i j p n e = cc
no_words false Inputs i j p n e = cc
no_words false OwnWords i j p n e = cc
no_words false (Triples q) i j p n e = cc
no_words false (BitTriples q) i j p n e = cc
no_words false (Pairs q) i j p n e = cc

same_peer : (p q : HostId) (n m : ℕ) → want.Words p n ≡ want.Words q m → p.0 ≡ q.0
same_peer p q n m e = cc

same_count : (p q : HostId) (n m : ℕ) → want.Words p n ≡ want.Words q m → n ≡ m
same_count p q n m e = cc

pub wants_words : (l : Lists) (c : Cursors) (n : Need) (p : HostId) (k : ℕ) → want.Words p k ≡ want_of l c n → n ≡ Packet p.0 k
wants_words l c Nothing p k e = absurd cc
wants_words l c (Item s) p k e = absurd (no_words (nat_lt (c s) (count_of l s)) s (c s) (count_of l s) p k e)
wants_words l c (Packet q m) p k e = ap (λ x. Packet x m) (sym (same_peer p (host q) k m e)) ∙ ap (λ x. Packet p.0 x) (sym (same_count p (host q) k m e))
wants_words l c (Unequal x y) p k e = absurd cc
wants_words l c Ended p k e = absurd cc

no_packet : (b : Bool) (x y p n : ℕ) → (if b then Nothing else Unequal x y) ≡ Packet p n → ⊥
no_packet true x y p n e = cc
no_packet false x y p n e = cc

pub acts_alone : (f : Registers) (a : Action) (p n : ℕ) → need_of_action f a ≡ Packet p n → ⊥
acts_alone f (action.Const r k) p n e = cc
acts_alone f (action.Copy r x) p n e = cc
acts_alone f (action.Apply o r x y) p n e = cc
acts_alone f (action.Shl r x k) p n e = cc
acts_alone f (action.Shr r x k) p n e = cc
acts_alone f (action.Mux r c x y) p n e = cc
acts_alone f (action.Own r) p n e = cc
acts_alone f (action.Triple q a b c) p n e = cc
acts_alone f (action.Bits q a b c) p n e = cc
acts_alone f (action.Pair q s x) p n e = cc
acts_alone f (action.Input r) p n e = cc
acts_alone f (action.Print r) p n e = cc
acts_alone f (action.Hash d m v) p n e = cc
acts_alone f (action.Same x y) p n e = no_packet (nat_eq (f x.0) (f y.0)) (f x.0) (f y.0) p n e
acts_alone f (action.Zero r count) p n e = cc
acts_alone f (action.Get r x count i) p n e = cc
acts_alone f (action.Put x count i s) p n e = cc
