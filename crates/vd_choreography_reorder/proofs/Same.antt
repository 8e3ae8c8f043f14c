-- Exchanges keep the packets.
use Rattle.std.proofs.Common.{◌≡◌, ◌≢◌, inl, inr, ℕ, zero, suc, ◌+◌, nat_eq, Bool, true, false, ◌&&◌, ◌||◌, not, if◌then◌else◌, List, [], ◌∷◌, refl, sym, ap, ap₂, ◌∙◌, subst, arith}
use Rattle.std.proofs.lemmas.Bool.{eq-eqb}
use Rattle.vd_execution.specs.declared.instructions.Reg.{Reg}
use Rattle.vd_execution.specs.declared.instructions.Action.{Action}
use Rattle.vd_execution.specs.declared.instructions.Line.{Line}
use Rattle.vd_execution.specs.Registers.{put}
use Rattle.vd_execution.specs.Step.{words_in, need_of_action}
use Rattle.vd_execution.specs.World.{Tape}
use Rattle.vd_execution.specs.Joint.{Joint, Host, Hosts, acted, supplied, said_to, has_heard, IsTidy, joint}
use Rattle.vd_execution.proofs.Front.{same_or_not, put_same, put_other}
use Rattle.vd_reorder.specs.ReorderLawsTesting.{reads, writes, meet}
use Rattle.vd_reorder.proofs.Front.{words_stay, apart, kept_words}
use Rattle.vd_reorder.specs.Turning.{Turn, Does, Tells, gone_by, Look, look, AreAlike, MayTurn, IsTurned, then_goes, with_joint}
use Rattle.vd_choreography_reorder.specs.Testing.{Opened, may_turn, is_beside, are_beside}
use Rattle.vd_choreography_reorder.specs.Order.{IsCarefullyTurned, CarefulTurns, IsCarefully, without_empty, IsBroughtForward}
use Rattle.vd_choreography_reorder.proofs.Empty.{same_run}
use Rattle.vd_choreography_reorder.proofs.Sound.{both, then_not}
use Rattle.vd_choreography_reorder.specs.Packets.{count_of, SendsTheSame}
use Rattle.vd_choreography_reorder.proofs.Kept.{at_spot}
use Rattle.vd_choreography_reorder.proofs.Mail.{words_told, added, counting, SameSo, itself_so, measure_gone, onwards_so, so_is_kept}

-- ---- each tells the same words in either order

-- the registers of a host that is not the one that acts or receives
elsewhere : (t : Tape) (h : ℕ) (a : Action) (w : Hosts) (from : ℕ) (said : List Reg) → from ≢ h → words_in (gone_by t (Does h a) w from).registers said ≡ words_in (w from).registers said
elsewhere t h a w from said ne = ap (λ (s : Host). words_in s.registers said) (put_other w h (acted (t h) a (w h)) from ne)

after_act : (t : Tape) (h : ℕ) (a : Action) (w : Hosts) (from : ℕ) (said : List Reg) → (not (nat_eq h from) || not (meet said (writes a))) ≡ true
    → words_in (gone_by t (Does h a) w from).registers said ≡ words_in (w from).registers said
after_act t h a w from said e =
    elim (same_or_not from h) [
      | inl same ↦
          ap (λ k. words_in (gone_by t (Does h a) w k).registers said) same
          ∙ ap (λ (s : Host). words_in s.registers said) (put_same w h (acted (t h) a (w h)))
          ∙ kept_words a said (apart said (writes a) (then_not (nat_eq h from) (meet said (writes a)) e (eq-eqb h from (sym same)))) (w h).registers
          (supplied (t h) (w h).cursors (need_of_action (w h).registers a))
          ∙ ap (λ k. words_in (w k).registers said) (sym same)
      | inr ne ↦ elsewhere t h a w from said ne
    ]

after_message : (t : Tape) (a : ℕ) (said : List Reg) (b : ℕ) (heard : List Reg) (w : Hosts) (c : ℕ) (says : List Reg) → (not (nat_eq b c) || not (meet says heard)) ≡ true
    → words_in (gone_by t (Tells a said b heard) w c).registers says ≡ words_in (w c).registers says
after_message t a said b heard w c says e =
    let words = words_in (w a).registers said in
    let sender : Host = said_to b words (w a) in
    let receiver : Host = has_heard heard words (w b) in
    elim (same_or_not c b) [
      | inl same ↦
          ap (λ k. words_in (gone_by t (Tells a said b heard) w k).registers says) same
          ∙ ap (λ (s : Host). words_in s.registers says) (put_same (put w a sender) b receiver)
          ∙ words_stay (w b).registers heard words says (apart says heard (then_not (nat_eq b c) (meet says heard) e (eq-eqb b c (sym same))))
          ∙ ap (λ k. words_in (w k).registers says) (sym same)
      | inr ne ↦ ap (λ (s : Host). words_in s.registers says) (put_other (put w a sender) b receiver c ne) ∙ elim (same_or_not c a) [
        | inl is ↦ ap (λ k. words_in (put w a sender k).registers says) is ∙ ap (λ (s : Host). words_in s.registers says) (put_same w a sender) ∙ ap (λ k. words_in (w k).registers says) (sym is)
        | inr na ↦ ap (λ (s : Host). words_in s.registers says) (put_other w a sender c na)
      ]
    ]

told_late : (t : Tape) (x y : Turn) (w : Hosts) → may_turn x y ≡ true → words_told y (gone_by t x w) ≡ words_told y w
told_late t x (Does h b) w e = refl
told_late t (Does h a) (Tells from said to heard) w e =
    let p = both (not (nat_eq from to)) _ e in
    let q = both (not (nat_eq h from) || not (meet said (writes a))) _ p.1 in
    after_act t h a w from said q.0
told_late t (Tells a said b heard) (Tells c says d hears) w e =
    let p = both (not (nat_eq a b) && not (nat_eq c d)) _ e in
    let q = both (not (nat_eq b c) || not (meet says heard)) _ p.1 in
    after_message t a said b heard w c says q.0

told_early : (t : Tape) (x y : Turn) (w : Hosts) → may_turn x y ≡ true → words_told x (gone_by t y w) ≡ words_told x w
told_early t (Does h a) y w e = refl
told_early t (Tells from said to heard) (Does h a) w e =
    let p = both (not (nat_eq from to)) _ e in
    let q = both (not (nat_eq h from) || not (meet said (writes a))) _ p.1 in
    after_act t h a w from said q.0
told_early t (Tells a said b heard) (Tells c says d hears) w e =
    let p = both (not (nat_eq a b) && not (nat_eq c d)) _ e in
    let q = both (not (nat_eq b c) || not (meet says heard)) _ p.1 in
    let r = both (not (nat_eq d a) || not (meet said hears)) _ q.1 in
    after_message t c says d hears w a said r.0

-- ---- hosts that are alike and have sent the same

module _ (test : List ℕ → Bool) (g h : ℕ) where
  abbrev So : Hosts → Hosts → Type 0
  So = SameSo ℕ (counting test) g h

  abbrev count : Hosts → ℕ
  count w = count_of test ((w g).sent h)

  abbrev more : Turn → List ℕ → ℕ
  more x words = added ℕ (counting test) g h x words

  in_either_order : (n p q : ℕ) → n + p + q ≡ n + q + p
  in_either_order n p q = omega arith

  turned_so : (x y : Turn) → MayTurn x y → may_turn x y ≡ true → (t : Tape) (w : Hosts) → So (gone_by t x (gone_by t y w)) (gone_by t y (gone_by t x w))
  turned_so x y may e t w = record {
    alike = λ k. sym (may.alike t w k);
    told =
        measure_gone ℕ (counting test) g h t x (gone_by t y w)
        ∙ ap₂ (λ (n : ℕ) (ws : List ℕ). n + more x ws) (measure_gone ℕ (counting test) g h t y w) (told_early t x y w e)
        ∙ in_either_order (count w) (more y (words_told y w)) (more x (words_told x w))
        ∙ sym (ap₂ (λ (n : ℕ) (ws : List ℕ). n + more y ws) (measure_gone ℕ (counting test) g h t x w) (told_late t x y w e))
        ∙ sym (measure_gone ℕ (counting test) g h t y (gone_by t x w));
  }

  one_so : (opened : Opened) (j k : Joint) → IsCarefullyTurned opened j k → (t : Tape) (w : Hosts) → So (joint t k w) (joint t j w)
  one_so opened j k x t w =
      subst (λ i. So (joint t i w) (joint t j w)) (sym x.turned.new)
      (subst (λ i. So (joint t (with_joint x.turned.spot (then_goes x.turned.second (then_goes x.turned.first x.turned.rest))) w) (joint t i w)) (sym x.turned.old)
      (at_spot So (so_is_kept ℕ (counting test) g h) t x.turned.first x.turned.second x.turned.rest (turned_so x.turned.first x.turned.second x.turned.may x.apart t) x.turned.spot w))

  all_so : (opened : Opened) (n : ℕ) (j k : Joint) → CarefulTurns opened n j k → (t : Tape) (w : Hosts) → So (joint t k w) (joint t j w)
  all_so opened zero j k x t w = subst (λ i. So (joint t i w) (joint t j w)) x (itself_so ℕ (counting test) g h (joint t j w))
  all_so opened (suc n) j k x t w =
      onwards_so ℕ (counting test) g h (joint t k w) (joint t x.0 w) (joint t j w) (all_so opened n x.0 k x.2 t w) (one_so opened j x.0 x.1 t w)

pub packets_kept : (opened : Opened) (j k : Joint) → IsCarefully opened j k → (t : Tape) (w : Hosts) → SendsTheSame (joint t k w) (joint t j w)
packets_kept opened j k x t w a b test = (all_so test a b opened x.0 j k x.1 t w).told

pub packets_brought : (opened : Opened) (j : Joint) (lines : List Line) (x : IsBroughtForward opened j lines) → IsTidy j → (t : Tape) (w : Hosts) → SendsTheSame (joint t x.code w) (joint t j w)
packets_brought opened j lines x tidy t w = subst (SendsTheSame (joint t x.code w)) (same_run t j tidy w) (packets_kept opened (without_empty j) x.code x.exchanged t w)
