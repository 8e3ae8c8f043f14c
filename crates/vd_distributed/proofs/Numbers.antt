-- The numbers in a host's file are words, so those of its code are.
use Rattle.std.proofs.Common.{◌<◌, ◌^◌, ℕ, List, [], ◌∷◌, Option, Some, None, subst, arith, map}
use Rattle.std.specs.List.{AllByRecursion}
use Rattle.vd_base.specs.Words.{IsWord}
use Rattle.vd_execution.specs.declared.instructions.Action.{Action}
use Rattle.vd_execution.specs.declared.instructions.Action.TheVariants as action
use Rattle.vd_execution.specs.declared.instructions.Instr.{Instr}
use Rattle.vd_execution.specs.declared.instructions.Instr.TheVariants as instr
use Rattle.vd_execution.specs.Code.{Code}
use Rattle.vd_execution.specs.Text.{IsCodeOf, Open, AfterEnd, AfterElse, Reading, read, read_before, with_instr, at_else, at_if, at_for}
use Rattle.vd_hostcode.specs.Lines.{Leads, State, after, line_of}
use Rattle.vd_hostcode.specs.Words.{operands}
use Rattle.vd_distributed.specs.Linked.{NumberIsWord, NumbersAreWords}

-- the numbers of an instruction are words
abbrev IsSmall : Instr → Type 0
IsSmall (instr.Do a) = NumberIsWord a
IsSmall (instr.For r count) = count < 2 ^ 32
IsSmall other = Unit {0}

abbrev AreSmall : List Instr → Type 0
AreSmall [] = Unit {0}
AreSmall (i ∷ is) = IsSmall i × AreSmall is

action_small : (a : Action) → AllByRecursion IsWord (operands (instr.Do a)) → NumberIsWord a
action_small (action.Const r k) w = let k_is = w.1.0 in omega (arith, k_is)
action_small a w = tt

small : (i : Instr) → AllByRecursion IsWord (operands i) → IsSmall i
small (instr.Do a) w = action_small a w
small (instr.Send p rs) w = tt
small (instr.Recv p rs) w = tt
small (instr.If g) w = tt
small instr.Else w = tt
small (instr.For r count) w = let c = w.1.0 in omega (arith, c)
small instr.End w = tt

all_small : (is : List Instr) (s : State) → Leads s (map line_of is) → AreSmall is
all_small [] s l = tt
all_small (i ∷ is) s l = (small i l.1.0.words, all_small is (after s (line_of i).word) l.1.1.1)

-- ---- from instructions to code

abbrev OpenIsSmall : Open → Type 0
OpenIsSmall (AfterEnd rest) = NumbersAreWords rest
OpenIsSmall (AfterElse other rest) = NumbersAreWords other × NumbersAreWords rest

abbrev OpensAreSmall : List Open → Type 0
OpensAreSmall [] = Unit {0}
OpensAreSmall (o ∷ os) = OpenIsSmall o × OpensAreSmall os

abbrev ReadIsSmall : Option Reading → Type 0
ReadIsSmall None = Unit {0}
ReadIsSmall (Some r) = NumbersAreWords r.code × OpensAreSmall r.blocks

else_small : (c : Code) (os : List Open) → NumbersAreWords c → OpensAreSmall os → ReadIsSmall (at_else c os)
else_small c [] p q = tt
else_small c (AfterEnd rest ∷ os) p q = (tt, ((p, q.0), q.1))
else_small c (AfterElse other rest ∷ os) p q = tt

if_small : (g : ℕ) (c : Code) (os : List Open) → NumbersAreWords c → OpensAreSmall os → ReadIsSmall (at_if g c os)
if_small g c [] p q = tt
if_small g c (AfterEnd rest ∷ os) p q = tt
if_small g c (AfterElse other rest ∷ os) p q = ((p, (q.0.0, q.0.1)), q.1)

for_small : (r count : ℕ) (c : Code) (os : List Open) → count < 2 ^ 32 → NumbersAreWords c → OpensAreSmall os → ReadIsSmall (at_for r count c os)
for_small r count c [] low p q = tt
for_small r count c (AfterEnd rest ∷ os) low p q = ((low, (p, q.0)), q.1)
for_small r count c (AfterElse other rest ∷ os) low p q = tt

instr_small : (i : Instr) (c : Code) (os : List Open) → IsSmall i → NumbersAreWords c → OpensAreSmall os → ReadIsSmall (with_instr i c os)
instr_small (instr.Do a) c os s p q = ((s, p), q)
instr_small (instr.Send peer rs) c os s p q = (p, q)
instr_small (instr.Recv peer rs) c os s p q = (p, q)
instr_small (instr.If g) c os s p q = if_small g.0 c os p q
instr_small instr.Else c os s p q = else_small c os p q
instr_small (instr.For r count) c os s p q = for_small r.0 count c os s p q
instr_small instr.End c os s p q = (tt, (p, q))

before_small : (i : Instr) (o : Option Reading) → IsSmall i → ReadIsSmall o → ReadIsSmall (read_before i o)
before_small i None s p = tt
before_small i (Some r) s p = instr_small i r.code r.blocks s p.0 p.1

read_small : (is : List Instr) → AreSmall is → ReadIsSmall (read is)
read_small [] s = (tt, tt)
read_small (i ∷ is) s = before_small i (read is) s.0 (read_small is s.1)

pub numbers_small : (is : List Instr) (c : Code) (s : State) → Leads s (map line_of is) → IsCodeOf is c → NumbersAreWords c
numbers_small is c s leads code =
    let small_read : ReadIsSmall (Some (record { code = c; blocks = [] })) = subst ReadIsSmall code (read_small is (all_small is s leads)) in
    small_read.0
