-- A word that is shown to a host, as code.
use Rattle.std.proofs.Common.{◌≡◌, Bool, true, false, if◌then◌else◌, List, ◌++◌, sym, ap, ◌∙◌, append_assoc, append-nil}
use Rattle.vd_base.specs.declared.ids.HostId.{HostId}
use Rattle.vd_base.specs.Holders.{is_among}
use Rattle.vd_execution.specs.declared.instructions.Line.{Line}
use Rattle.vd_execution.specs.declared.instructions.Reg.{Reg}
use Rattle.vd_duet.specs.Builder.{Builder}
use Rattle.vd_duet.specs.Calls.{Places, hosts_of, Made, called, appended, register_of}
use Rattle.vd_clear.specs.Copies.{adopted, told, compared, first_register, shown}
use Rattle.vd_duet.proofs.Front.{emitted_append}

abbrev told_all : Places → HostId → Builder → Made Reg
told_all x to b = record {
  given = first_register (told x to b.next).given;
  gadgets = (told x to b.next).gadgets ++ compared to (told x to b.next).given;
  next = (told x to b.next).next;
}

abbrev chosen : Places → HostId → Builder → Bool → Made Reg
chosen x to b own = if own then adopted x to b.next else told_all x to b

pub shown_own : (x : Places) (to : HostId) (b : Builder) → is_among (hosts_of x) to.0 ≡ true → (register_of x to.0, b) ≡ called (shown x to b.next) b
shown_own x to b own =
    ap (λ (l : List Line). let p : Reg × Builder = (register_of x to.0, record { lines = l; next = b.next }) in p) (sym (append-nil b.lines))
    ∙ ap (λ (c : Bool). called (chosen x to b c) b) (sym own)

pub shown_told : (x : Places) (to : HostId) (b b1 b2 : Builder) (heard : List Reg) → is_among (hosts_of x) to.0 ≡ false
    → (heard, b1) ≡ called (told x to b.next) b → b2 ≡ appended (compared to heard) b1 → (first_register heard, b2) ≡ called (shown x to b.next) b
shown_told x to b b1 b2 heard other is then' =
    ap (λ (c : Builder). let p : Reg × Builder = (first_register heard, c) in p) then'
    ∙ ap (λ (z : List Reg × Builder). let p : Reg × Builder = (first_register z.0, appended (compared to z.0) z.1) in p) is
    ∙ ap (λ (l : List Line). let p : Reg × Builder = ((told_all x to b).given, record { lines = l; next = (told_all x to b).next }) in p)
    (append_assoc b.lines _ _ ∙ ap (λ (l : List Line). b.lines ++ l) (sym (emitted_append (told x to b.next).gadgets (compared to (told x to b.next).given))))
    ∙ ap (λ (c : Bool). called (chosen x to b c) b) (sym other)
