-- In a world without fault, the hosts that are ready are those that can step.
use Rattle.std.proofs.Common.{◌≡◌, ℕ, List, Option, Some, None, refl, ap}
use Rattle.vd_base.specs.declared.host_state.HostState.{HostState}
use Rattle.vd_base.specs.declared.host_state.HostState.TheVariants as state
use Rattle.vd_execution.specs.Registers.{put}
use Rattle.vd_execution.specs.Step.{Source, Inputs, OwnWords, Triples, BitTriples, Pairs, Cursors, Need, Nothing, Item, Packet, Unequal, Ended, Given, of_length, answer, need}
use Rattle.vd_execution.specs.World.{Local, World, Supply, given, moved_on, IsWrong, HasNoFault, CanStep}
use Rattle.vd_execution.specs.States.{short_of, ready_or, state_for, host_state}
use Rattle.vd_execution.proofs.Diamond.{stepped, steps_to}

short_not_ready : (s : Source) → short_of s ≡ state.Ready → ⊥
short_not_ready Inputs e = cc
short_not_ready OwnWords e = cc
short_not_ready (Triples p) e = cc
short_not_ready (BitTriples p) e = cc
short_not_ready (Pairs p) e = cc

ready_some : (other : HostState) (o : Option (List ℕ)) → (other ≡ state.Ready → ⊥) → ready_or other o ≡ state.Ready → (xs : List ℕ) × (o ≡ Some xs)
ready_some other None n e = absurd (n e)
ready_some other (Some xs) n e = (xs, refl)

some_ready : (other : HostState) (o : Option (List ℕ)) (xs : List ℕ) → o ≡ Some xs → ready_or other o ≡ state.Ready
some_ready other o xs e = ap (ready_or other) e

answers : (w : World) (h : ℕ) (l : Local) (g : Given) (c : Cursors) (n : Need) → (IsWrong w h l n → ⊥) → state_for g c n ≡ state.Ready → (xs : List ℕ) × (answer g c n ≡ Some xs)
answers w h l g c Nothing fine e = (_, refl)
answers w h l g c (Item s) fine e = ready_some (short_of s) (g.item s (c s)) (short_not_ready s) e
answers w h l g c (Packet p n) fine e = ready_some _ (of_length n (g.front p)) (λ i. cc) e
answers w h l g c (Unequal x y) fine e = absurd (fine tt)
answers w h l g c Ended fine e = absurd cc

is_ready : (g : Given) (c : Cursors) (n : Need) (xs : List ℕ) → answer g c n ≡ Some xs → state_for g c n ≡ state.Ready
is_ready g c Nothing xs e = refl
is_ready g c (Item s) xs e = some_ready (short_of s) (g.item s (c s)) xs e
is_ready g c (Packet p n) xs e = some_ready _ (of_length n (g.front p)) xs e
is_ready g c (Unequal x y) xs e = absurd cc
is_ready g c Ended xs e = absurd cc

pub ready_steps : (s : Supply) (w : World) (h : ℕ) → HasNoFault w → host_state s w h ≡ state.Ready → CanStep s w h
ready_steps s w h fine e =
    let a = answers w h (w h) (given s w h (w h)) (w h).state.cursors (need (w h).state) (fine h) e in
    (put w h (moved_on (w h) a.0), steps_to s h w (w h) a.0 refl a.1)

pub steps_ready : (s : Supply) (w : World) (h : ℕ) → CanStep s w h → host_state s w h ≡ state.Ready
steps_ready s w h can =
    let a = stepped s h w can.0 can.1 in
    is_ready (given s w h (w h)) (w h).state.cursors (need (w h).state) a.words a.able
