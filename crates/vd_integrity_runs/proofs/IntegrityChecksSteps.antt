-- Single steps of a host, whatever words it is given.
use Rattle.std.proofs.Common.{◌≡◌, ℕ, nat_eq, Bool, true, false, if◌then◌else◌, List, ◌∷◌, Option, Some, None, length, refl, sym, ap, subst, ◌∙◌}
use Rattle.std.proofs.lemmas.Bool.{eq-eqb, eqb-true}
use Rattle.vd_base.specs.declared.ids.HostId.{HostId}
use Rattle.vd_execution.specs.declared.instructions.Reg.{Reg}
use Rattle.vd_execution.specs.declared.instructions.Action.{Action}
use Rattle.vd_execution.specs.declared.instructions.Action.TheVariants as action
use Rattle.vd_execution.specs.Acts.{do_then}
use Rattle.vd_execution.specs.Code.{Code, Then, Send, Recv}
use Rattle.vd_execution.specs.Gadgets.{Gadget, Alone, Tells, acts_of_gadgets}
use Rattle.vd_execution.specs.Joint.{Joint, Do, Msg, code_of}
use Rattle.vd_execution.specs.Registers.{put_each, written}
use Rattle.vd_execution.specs.Step.{Given, Need, Nothing, Item, Packet, Unequal, Ended, Cursors, State, answer, of_length, need, need_of, next, pending_after, registers_after}
use Rattle.vd_integrity_runs.specs.Alone.{MayBe}
use Rattle.vd_integrity_runs.specs.Passing.{code_for}

-- ---- what a host is given may be what it needs

of_that_length : (count : ℕ) (packet words : List ℕ) (b : Bool) → nat_eq (length packet) count ≡ b → (if b then Some packet else None) ≡ Some words → length words ≡ count
of_that_length count packet words true same is = let e : packet ≡ words = cc is in ap length (sym e) ∙ eqb-true (length packet) count same
of_that_length count packet words false same is = absurd (cc is)

answers_packet : (count : ℕ) (front : Option (List ℕ)) (words : List ℕ) → of_length count front ≡ Some words → length words ≡ count
answers_packet count None words is = absurd (cc is)
answers_packet count (Some packet) words is = of_that_length count packet words (nat_eq (length packet) count) refl is

pub answers_may_be : (given : Given) (cursors : Cursors) (n : Need) (words : List ℕ) → answer given cursors n ≡ Some words → MayBe n words
answers_may_be given cursors Nothing words is = cc is
answers_may_be given cursors (Item source) words is = tt
answers_may_be given cursors (Packet peer count) words is = answers_packet count (given.front peer) words is
answers_may_be given cursors (Unequal left right) words is = absurd (cc is)
answers_may_be given cursors Ended words is = absurd (cc is)

-- ---- the code of a host that acts first, or hears first

acts_first : (h : ℕ) (a : Action) (j : Joint) → code_of h (Do h a j) ≡ Then a (code_of h j)
acts_first h a j = ap (λ (b : Bool). if b then Then a (code_of h j) else code_of h j) (eq-eqb h h refl)

hears_first : (h from : ℕ) (said heard : List Reg) (j : Joint) → nat_eq h from ≡ false → code_of h (Msg from said h heard j) ≡ Recv from heard (code_of h j)
hears_first h from said heard j off =
    ap (λ (b : Bool). if b then Send h said (code_of h j) else (if nat_eq h h then Recv from heard (code_of h j) else code_of h j)) off
    ∙ ap (λ (b : Bool). if b then Recv from heard (code_of h j) else code_of h j) (eq-eqb h h refl)

module _ (h : HostId) (gadgets : List Gadget) (rest : Joint) (before : State) (words : List ℕ) where
  -- the host acts
  pub acted : (a : Action) → before.pending ≡ code_for h (Alone h a ∷ gadgets) rest
      → ((next before words).pending ≡ code_for h gadgets rest) × ((next before words).registers ≡ written before.registers a words)
  acted a begins =
      let at = begins ∙ acts_first h.0 a (do_then (acts_of_gadgets gadgets) rest) in
      (ap (pending_after before.registers) at, ap (λ (c : Code). registers_after before.registers c words) at)

  -- the host hears words
  pub heard_some : (from : HostId) (said heard : List Reg) → nat_eq h.0 from.0 ≡ false → before.pending ≡ code_for h (Tells from said h heard ∷ gadgets) rest
      → ((next before words).pending ≡ code_for h gadgets rest) × ((next before words).registers ≡ put_each before.registers heard words)
  heard_some from said heard off begins =
      let at = begins ∙ hears_first h.0 from.0 said heard (do_then (acts_of_gadgets gadgets) rest) off in
      (ap (pending_after before.registers) at, ap (λ (c : Code). registers_after before.registers c words) at)

  same_words : (x y : ℕ) (b : Bool) → nat_eq x y ≡ b → MayBe (if b then Nothing else Unequal x y) words → x ≡ y
  same_words x y true is may = eqb-true x y is
  same_words x y false is may = absurd may

  -- the host compares words
  pub passed : (x y : Reg) → before.pending ≡ code_for h (Alone h (action.Same x y) ∷ gadgets) rest → MayBe (need before) words → before.registers x.0 ≡ before.registers y.0
  passed x y begins may =
      let f = before.registers in
      let at = begins ∙ acts_first h.0 (action.Same x y) (do_then (acts_of_gadgets gadgets) rest) in
      same_words (f x.0) (f y.0) (nat_eq (f x.0) (f y.0)) refl (subst (λ (n : Need). MayBe n words) (ap (need_of f) at) may)
