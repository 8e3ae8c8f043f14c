-- A text is read back as its code, and what is read is the text.
use Rattle.std.proofs.Common.{◌≡◌, ℕ, List, [], ◌∷◌, Option, Some, None, Bool, true, false, nat_eq, if◌then◌else◌, subst, refl, sym, ap, ap₂, ◌∙◌}
use Rattle.vd_base.specs.HostSets.{host}
use Rattle.vd_execution.specs.declared.instructions.Instr.{Instr}
use Rattle.vd_execution.specs.declared.instructions.Instr.TheVariants as instr
use Rattle.vd_execution.specs.Code.{Code, Finished, Then, Send, Recv, Choose, Repeat, followed_by}
use Rattle.vd_execution.specs.Joint.{Joint, Done, Do, Msg, If, For, code_of}
use Rattle.vd_execution.specs.Text.{register, text, IsUnbegun, Open, AfterEnd, AfterElse, Reading, at_else, at_if, at_for, with_instr, read_before, read, IsCodeOf}
use Rattle.vd_execution.proofs.Parts.{part_keeps}

abbrev reading : Code → List Open → Option Reading
reading c blocks = Some (record { code = c; blocks = blocks })

pub ends_there : (c : Code) → followed_by c Finished ≡ c
ends_there Finished = refl
ends_there (Then a c) = ap (λ d. Then a d) (ends_there c)
ends_there (Send p rs c) = ap (λ d. Send p rs d) (ends_there c)
ends_there (Recv p rs c) = ap (λ d. Recv p rs d) (ends_there c)
ends_there (Choose g x y c) = ap (λ d. Choose g x y d) (ends_there c)
ends_there (Repeat r i n body c) = ap (λ d. Repeat r i n body d) (ends_there c)

-- what stands behind is read first
read_text : (c : Code) → IsUnbegun c → (behind : List Instr) (d : Code) (blocks : List Open) → read behind ≡ reading d blocks → read (text c behind) ≡ reading (followed_by c d) blocks
read_text Finished u behind d blocks e = e
read_text (Then a c) u behind d blocks e = ap (read_before (instr.Do a)) (read_text c u behind d blocks e)
read_text (Send p rs c) u behind d blocks e = ap (read_before (instr.Send (host p) rs)) (read_text c u behind d blocks e)
read_text (Recv p rs c) u behind d blocks e = ap (read_before (instr.Recv (host p) rs)) (read_text c u behind d blocks e)
read_text (Choose g first other c) u behind d blocks e =
    let rest : Code = followed_by c d in
    let one = ap (read_before instr.End) (read_text c u.1.1 behind d blocks e) in
    let two = ap (read_before instr.Else) (read_text other u.1.0 (instr.End ∷ text c behind) Finished (AfterEnd rest ∷ blocks) one) in
    let three = read_text first u.0 (instr.Else ∷ text other (instr.End ∷ text c behind)) Finished (AfterElse (followed_by other Finished) rest ∷ blocks) two in
    ap (read_before (instr.If (register g))) three
    ∙ ap₂ (λ (x y : Code). reading (Choose g x y rest) blocks) (ends_there first) (ends_there other)
read_text (Repeat r turn count body c) u behind d blocks e =
    let rest : Code = followed_by c d in
    let one = ap (read_before instr.End) (read_text c u.1.1 behind d blocks e) in
    let two = read_text body u.1.0 (instr.End ∷ text c behind) Finished (AfterEnd rest ∷ blocks) one in
    ap (read_before (instr.For (register r) count)) two
    ∙ ap₂ (λ (x : Code) (i : ℕ). reading (Repeat r i count x rest) blocks) (ends_there body) (sym u.0)

pub read_back : (c : Code) → IsUnbegun c → IsCodeOf (text c []) c
read_back c u = read_text c u [] Finished [] refl ∙ ap (λ x. reading x []) (ends_there c)

-- the text of a reading: this block, and what stands behind it in the blocks around it
abbrev open_text : List Open → List Instr
open_text [] = []
open_text (AfterEnd rest ∷ blocks) = instr.End ∷ text rest (open_text blocks)
open_text (AfterElse other rest ∷ blocks) = instr.Else ∷ text other (instr.End ∷ text rest (open_text blocks))

abbrev text_of : Reading → List Instr
text_of r = text r.code (open_text r.blocks)

some_same : (r q : Reading) → Some r ≡ Some q → text_of r ≡ text_of q
some_same r q e = let i : r ≡ q = cc in ap text_of i

text_if : (g : ℕ) (c : Code) (blocks : List Open) (r : Reading) → at_if g c blocks ≡ Some r → instr.If (register g) ∷ text c (open_text blocks) ≡ text_of r
text_if g c [] r e = absurd cc
text_if g c (AfterEnd rest ∷ blocks) r e = absurd cc
text_if g c (AfterElse other rest ∷ blocks) r e = some_same _ r e

text_else : (c : Code) (blocks : List Open) (r : Reading) → at_else c blocks ≡ Some r → instr.Else ∷ text c (open_text blocks) ≡ text_of r
text_else c [] r e = absurd cc
text_else c (AfterEnd rest ∷ blocks) r e = some_same _ r e
text_else c (AfterElse other rest ∷ blocks) r e = absurd cc

text_for : (x count : ℕ) (c : Code) (blocks : List Open) (r : Reading) → at_for x count c blocks ≡ Some r → instr.For (register x) count ∷ text c (open_text blocks) ≡ text_of r
text_for x count c [] r e = absurd cc
text_for x count c (AfterEnd rest ∷ blocks) r e = some_same _ r e
text_for x count c (AfterElse other rest ∷ blocks) r e = absurd cc

text_instr : (i : Instr) (c : Code) (blocks : List Open) (r : Reading) → with_instr i c blocks ≡ Some r → i ∷ text c (open_text blocks) ≡ text_of r
text_instr (instr.Do a) c blocks r e = some_same _ r e
text_instr (instr.Send p rs) c blocks r e = some_same _ r e
text_instr (instr.Recv p rs) c blocks r e = some_same _ r e
text_instr (instr.If g) c blocks r e = text_if g.0 c blocks r e
text_instr instr.Else c blocks r e = text_else c blocks r e
text_instr (instr.For x count) c blocks r e = text_for x.0 count c blocks r e
text_instr instr.End c blocks r e = some_same _ r e

text_before : (i : Instr) (is : List Instr) (o : Option Reading) → read is ≡ o → ((q : Reading) → read is ≡ Some q → is ≡ text_of q) → (r : Reading) → read_before i o ≡ Some r → i ∷ is ≡ text_of r
text_before i is None f ih r e = absurd cc
text_before i is (Some q) f ih r e = ap (λ l. i ∷ l) (ih q f) ∙ text_instr i q.code q.blocks r e

text_read : (is : List Instr) (r : Reading) → read is ≡ Some r → is ≡ text_of r
text_read [] r e = some_same _ r e
text_read (i ∷ is) r e = text_before i is (read is) refl (text_read is) r e

pub written_back : (is : List Instr) (c : Code) → IsCodeOf is c → text c [] ≡ is
written_back is c e = sym (text_read is (record { code = c; blocks = [] }) e)

-- the code of each host has no loop that has begun
pub unbegun : (h : ℕ) (j : Joint) → IsUnbegun (code_of h j)
unbegun h Done = tt
unbegun h (Do a x r) = one (unbegun h r) (nat_eq h a)
  where
    one : IsUnbegun (code_of h r) → (b : Bool) → IsUnbegun (if b then Then x (code_of h r) else code_of h r)
    one u true = u
    one u false = u
unbegun h (Msg a xs b ys r) = one (unbegun h r) (nat_eq h a) (nat_eq h b)
  where
    one : IsUnbegun (code_of h r) → (c d : Bool) → IsUnbegun (if c then Send b xs (code_of h r) else (if d then Recv a ys (code_of h r) else code_of h r))
    one u true d = u
    one u false true = u
    one u false false = u
unbegun h (If ps first other r) =
    part_keeps IsUnbegun ps h (λ g. Choose g (code_of h first) (code_of h other) (code_of h r)) (code_of h r) (λ g. (unbegun h first, (unbegun h other, unbegun h r))) (unbegun h r)
unbegun h (For ps count body r) =
    part_keeps IsUnbegun ps h (λ c. Repeat c 0 count (code_of h body) (code_of h r)) (code_of h r) (λ c. (refl, (unbegun h body, unbegun h r))) (unbegun h r)

-- what is read has no loop that has begun
abbrev AllUnbegun : List Open → Type 0
AllUnbegun [] = Unit {0}
AllUnbegun (AfterEnd rest ∷ blocks) = IsUnbegun rest × AllUnbegun blocks
AllUnbegun (AfterElse other rest ∷ blocks) = IsUnbegun other × (IsUnbegun rest × AllUnbegun blocks)

abbrev Unbegun : Reading → Type 0
Unbegun r = IsUnbegun r.code × AllUnbegun r.blocks

same_unbegun : (r q : Reading) → Some r ≡ Some q → Unbegun r → Unbegun q
same_unbegun r q e u = let i : r ≡ q = cc in subst Unbegun i u

if_unbegun : (g : ℕ) (c : Code) (bs : List Open) (q : Reading) → IsUnbegun c → AllUnbegun bs → at_if g c bs ≡ Some q → Unbegun q
if_unbegun g c [] q u v e = absurd cc
if_unbegun g c (AfterEnd rest ∷ bs) q u v e = absurd cc
if_unbegun g c (AfterElse other rest ∷ bs) q u v e = same_unbegun _ q e ((u, (v.0, v.1.0)), v.1.1)

else_unbegun : (c : Code) (bs : List Open) (q : Reading) → IsUnbegun c → AllUnbegun bs → at_else c bs ≡ Some q → Unbegun q
else_unbegun c [] q u v e = absurd cc
else_unbegun c (AfterElse other rest ∷ bs) q u v e = absurd cc
else_unbegun c (AfterEnd rest ∷ bs) q u v e = same_unbegun _ q e (tt, (u, (v.0, v.1)))

for_unbegun : (r n : ℕ) (c : Code) (bs : List Open) (q : Reading) → IsUnbegun c → AllUnbegun bs → at_for r n c bs ≡ Some q → Unbegun q
for_unbegun r n c [] q u v e = absurd cc
for_unbegun r n c (AfterElse other rest ∷ bs) q u v e = absurd cc
for_unbegun r n c (AfterEnd rest ∷ bs) q u v e = same_unbegun _ q e ((refl, (u, v.0)), v.1)

instr_unbegun : (i : Instr) (c : Code) (bs : List Open) (q : Reading) → IsUnbegun c → AllUnbegun bs → with_instr i c bs ≡ Some q → Unbegun q
instr_unbegun (instr.Do a) c bs q u v e = same_unbegun _ q e (u, v)
instr_unbegun (instr.Send p rs) c bs q u v e = same_unbegun _ q e (u, v)
instr_unbegun (instr.Recv p rs) c bs q u v e = same_unbegun _ q e (u, v)
instr_unbegun (instr.If g) c bs q u v e = if_unbegun g.0 c bs q u v e
instr_unbegun instr.Else c bs q u v e = else_unbegun c bs q u v e
instr_unbegun (instr.For r n) c bs q u v e = for_unbegun r.0 n c bs q u v e
instr_unbegun instr.End c bs q u v e = same_unbegun _ q e (tt, (u, v))

before_unbegun : (i : Instr) (o : Option Reading) (q : Reading) → ((r : Reading) → o ≡ Some r → Unbegun r) → read_before i o ≡ Some q → Unbegun q
before_unbegun i None q ih e = absurd cc
before_unbegun i (Some r) q ih e = let u = ih r refl in instr_unbegun i r.code r.blocks q u.0 u.1 e

read_unbegun : (is : List Instr) (q : Reading) → read is ≡ Some q → Unbegun q
read_unbegun [] q e = same_unbegun _ q e (tt, tt)
read_unbegun (i ∷ is) q e = before_unbegun i (read is) q (λ r f. read_unbegun is r f) e

pub code_unbegun : (is : List Instr) (c : Code) → IsCodeOf is c → IsUnbegun c
code_unbegun is c e = (read_unbegun is (record { code = c; blocks = [] }) e).0
