-- What a back end's call makes, as a call of all protocols makes it.
use Rattle.std.proofs.Common.{◌≡◌, ℕ, [], ◌∷◌, ap, ◌∙◌}
use Rattle.vd_base.specs.declared.ids.HostId.{HostId}
use Rattle.vd_execution.specs.declared.instructions.Act.TheVariants as act
use Rattle.vd_execution.specs.declared.instructions.Action.{Action}
use Rattle.vd_execution.specs.declared.instructions.Reg.{Reg}
use Rattle.vd_duet.specs.Builder.{Builder, added, reserved}
use Rattle.vd_duet.specs.Calls.{Places, Made, called}
use Rattle.vd_duet.specs.Laws.{at_host}
use Rattle.vd_clear.specs.Copies.{written_by}
use Rattle.vd_split.specs.Lines.{called as called_all}
use Rattle.vd_backend_laws.specs.Parts.{Parts, word_in, made_of}

pub word_made : (made : Made Places) (b b' : Builder) (y : Places) (x : Parts) → x ≡ word_in y → (y, b') ≡ called made b → (x, b') ≡ called_all (made_of made) b
word_made made b b' y x is e =
    ap (λ (z : Parts). let p : Parts × Builder = (z, b') in p) is
    ∙ ap (λ (z : Places × Builder). let p : Parts × Builder = (word_in z.0, z.1) in p) e

pub array_made : (size : ℕ) (made : Made Places) (b b' : Builder) (y : Places) (x : Parts) → x ≡ record { at = y; size = size } → (y, b') ≡ called made b
    → (x, b') ≡ called_all (record { given = record { at = made.given; size = size }; acts = made.gadgets; next = made.next }) b
array_made size made b b' y x is e =
    ap (λ (z : Parts). let p : Parts × Builder = (z, b') in p) is
    ∙ ap (λ (z : Places × Builder). let p : Parts × Builder = (record { at = z.0; size = size }, z.1) in p) e

pub host_made : (h : HostId) (made : Made Reg) (b b' : Builder) (r : Reg) (y : Places) → y ≡ (h, r) ∷ [] → (r, b') ≡ called made b → (y, b') ≡ called (at_host h made) b
host_made h made b b' r y is e =
    ap (λ (z : Places). let p : Places × Builder = (z, b') in p) is
    ∙ ap (λ (z : Reg × Builder). let p : Places × Builder = ((h, z.0) ∷ [], z.1) in p) e

-- a fresh register, and an action that writes it
pub written_made : (h : HostId) (a : Reg → Action) (b b1 b2 : Builder) (r : Reg) → (r, b1) ≡ reserved h 1 b → b2 ≡ added (act.Do h (a r)) b1
    → (r, b2) ≡ called (written_by h a b.next) b
written_made h a b b1 b2 r e f =
    ap (λ (z : Builder). let p : Reg × Builder = (r, z) in p) f
    ∙ ap (λ (z : Reg × Builder). let p : Reg × Builder = (z.0, added (act.Do h (a z.0)) z.1) in p) e
