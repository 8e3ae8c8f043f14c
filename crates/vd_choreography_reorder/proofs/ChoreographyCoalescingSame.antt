-- Two packets one after the other, or one packet with the words of both.
use Rattle.std.proofs.Common.{◌≡◌, ◌≢◌, inl, inr, ℕ, zero, suc, nat_eq, Bool, true, false, ◌&&◌, not, if◌then◌else◌, List, [], ◌∷◌, ◌++◌, length, refl, sym, ap, ap₂, ◌∙◌, subst}
use mathlib.Core.Path.{fun_ext}
use Rattle.vd_execution.specs.declared.instructions.Reg.{Reg}
use Rattle.vd_execution.specs.Registers.{Registers, put, put_each}
use Rattle.vd_execution.specs.Step.{words_in}
use Rattle.vd_execution.specs.World.{Tape, words_of}
use Rattle.vd_execution.specs.Joint.{Host, Hosts, said_to, has_heard, after_msg}
use Rattle.vd_execution.proofs.Front.{same_or_not, put_same, put_other, put_twice, put_itself}
use Rattle.std.proofs.lemmas.List.{append_assoc, append-nil}
use Rattle.vd_reorder.specs.Turning.{Turn, Tells, gone_by, Look, look, AreAlike}
use Rattle.vd_reorder.proofs.Front.{heard_look}
use Rattle.vd_choreography_reorder.proofs.Kept.{IsKept}
use Rattle.vd_choreography_reorder.proofs.Mail.{Measure, SameSo, added, measure_gone, so_is_kept, words_told}

abbrev Looks : Type 0
Looks = ℕ → Look

abbrev looks : Hosts → Looks
looks w h = look (w h)

-- what is seen after a message
abbrev told : ℕ → List Reg → ℕ → List Reg → Looks → Looks
told a said b heard l = put l b (heard_look heard (words_in (l a).0 said) (l b))

put_look : (w : Hosts) (h : ℕ) (x : Host) (i : ℕ) → look (put w h x i) ≡ put (looks w) h (look x) i
put_look w h x i =
    elim (same_or_not i h) [
      | inl e ↦ ap (λ k. look (put w h x k)) e ∙ ap look (put_same w h x) ∙ sym (put_same (looks w) h (look x)) ∙ ap (put (looks w) h (look x)) (sym e)
      | inr ne ↦ ap look (put_other w h x i ne) ∙ sym (put_other (looks w) h (look x) i ne)
    ]

told_looks : (a : ℕ) (said : List Reg) (b : ℕ) (heard : List Reg) (w : Hosts) → looks (after_msg a said b heard w) ≡ told a said b heard (looks w)
told_looks a said b heard w =
    let sent : Hosts = put w a (said_to b (words_in (w a).registers said) (w a)) in
    let before : looks sent ≡ looks w = fun_ext (put_look w a (said_to b (words_in (w a).registers said) (w a))) ∙ put_itself (looks w) a in
    fun_ext (put_look sent b (has_heard heard (words_in (w a).registers said) (w b)))
    ∙ ap (λ (l : Looks). put l b (heard_look heard (words_in (w a).registers said) (look (w b)))) before

words_of_both : (f : Registers) (rs qs : List Reg) → words_in f (rs ++ qs) ≡ words_in f rs ++ words_in f qs
words_of_both f [] qs = refl
words_of_both f (r ∷ rs) qs = ap (λ ws. f r.0 ∷ ws) (words_of_both f rs qs)

words_count : (f : Registers) (rs : List Reg) → length (words_in f rs) ≡ length rs
words_count f [] = refl
words_count f (r ∷ rs) = ap suc (words_count f rs)

put_both : (f : Registers) (rs qs : List Reg) (xs ys : List ℕ) → length xs ≡ length rs → put_each f (rs ++ qs) (xs ++ ys) ≡ put_each (put_each f rs xs) qs ys
put_both f [] qs [] ys e = refl
put_both f [] qs (x ∷ xs) ys e = absurd cc
put_both f (r ∷ rs) qs [] ys e = absurd cc
put_both f (r ∷ rs) qs (x ∷ xs) ys e = put_both (put f r.0 x) rs qs xs ys cc

told_both : (a : ℕ) (said says : List Reg) (b : ℕ) (heard hears : List Reg) (l : Looks) → a ≢ b → length said ≡ length heard
    → told a (said ++ says) b (heard ++ hears) l ≡ told a says b hears (told a said b heard l)
told_both a said says b heard hears l apart size =
    let f = (l a).0 in
    let once : Look = heard_look heard (words_in f said) (l b) in
    ap (λ ws. put l b (heard_look (heard ++ hears) ws (l b))) (words_of_both f said says)
    ∙ ap (λ (g : Registers). put l b (g, (l b).1)) (put_both (l b).0 heard hears (words_in f said) (words_in f says) (words_count f said ∙ size))
    ∙ sym (put_twice l b once (heard_look hears (words_in f says) once))
    ∙ ap (λ (k : Look). put (put l b once) b (heard_look hears (words_in f says) k)) (sym (put_same l b once))
    ∙ ap (λ (k : Look). put (put l b once) b (heard_look hears (words_in k.0 says) (put l b once b))) (sym (put_other l b once a apart))

pub alike_both : (a : ℕ) (said says : List Reg) (b : ℕ) (heard hears : List Reg) (w : Hosts) → a ≢ b → length said ≡ length heard
    → AreAlike (after_msg a (said ++ says) b (heard ++ hears) w) (after_msg a says b hears (after_msg a said b heard w))
alike_both a said says b heard hears w apart size h =
    ap (λ (l : Looks). l h)
    (told_looks a (said ++ says) b (heard ++ hears) w
    ∙ told_both a said says b heard hears (looks w) apart size
    ∙ ap (told a says b hears) (sym (told_looks a said b heard w))
    ∙ sym (told_looks a says b hears (after_msg a said b heard w)))

-- ---- the words that went on a link

pub words_split : (ps qs : List (List ℕ)) → words_of (ps ++ qs) ≡ words_of ps ++ words_of qs
words_split [] qs = refl
words_split (p ∷ ps) qs = ap (λ ws. p ++ ws) (words_split ps qs) ∙ sym (append_assoc p (words_of ps) (words_of qs))

abbrev pub talking : Measure (List ℕ)
talking = record { of = words_of; join = λ ps qs. ps ++ qs; none = []; splits = words_split; unit = λ ps. sym (append-nil ps) }

abbrev pub So : ℕ → ℕ → Hosts → Hosts → Type 0
So g h = SameSo (List ℕ) talking g h

pub so_kept : (g h : ℕ) → IsKept (So g h)
so_kept g h = so_is_kept (List ℕ) talking g h

one_or_two : (b : Bool) (ps ws vs : List ℕ) → ps ++ (if b then (ws ++ vs) ++ [] else []) ≡ (ps ++ (if b then ws ++ [] else [])) ++ (if b then vs ++ [] else [])
one_or_two true ps ws vs =
    ap (λ l. ps ++ l) (append_assoc ws vs [])
    ∙ sym (append_assoc ps ws (vs ++ []))
    ∙ ap (λ l. (ps ++ l) ++ (vs ++ [])) (sym (append-nil ws))
one_or_two false ps ws vs = sym (append-nil (ps ++ []))

pub one_so : (t : Tape) (g h : ℕ) (a : ℕ) (said says : List Reg) (b : ℕ) (heard hears : List Reg) (w : Hosts) → a ≢ b → length said ≡ length heard
    → So g h (after_msg a (said ++ says) b (heard ++ hears) w) (after_msg a says b hears (after_msg a said b heard w))
one_so t g h a said says b heard hears w apart size =
    let f = (w a).registers in
    let once : Hosts = after_msg a said b heard w in
    let here : Bool = (nat_eq g a && nat_eq h b) && not (nat_eq a b) in
    let so_far : List ℕ = words_of ((w g).sent h) in
    let gone : (x : Turn) (v : Hosts) → words_of ((gone_by t x v g).sent h) ≡ words_of ((v g).sent h) ++ added (List ℕ) talking g h x (words_told x v) = measure_gone (List ℕ) talking g h t in
    let stay : words_in (once a).registers says ≡ words_in f says =
    ap (λ (s : Host). words_in s.registers says) (put_other (put w a (said_to b (words_in f said) (w a))) b (has_heard heard (words_in f said) (w b)) a apart)
    ∙ ap (λ (s : Host). words_in s.registers says) (put_same w a (said_to b (words_in f said) (w a))) in
    record {
      alike = alike_both a said says b heard hears w apart size;
      told =
          gone (Tells a (said ++ says) b (heard ++ hears)) w
          ∙ ap (λ ws. so_far ++ (if here then ws ++ [] else [])) (words_of_both f said says)
          ∙ one_or_two here so_far (words_in f said) (words_in f says)
          ∙ ap (λ ws. (so_far ++ (if here then words_in f said ++ [] else [])) ++ (if here then ws ++ [] else [])) (sym stay)
          ∙ ap (λ ws. ws ++ (if here then words_in (once a).registers says ++ [] else [])) (sym (gone (Tells a said b heard) w))
          ∙ sym (gone (Tells a says b hears) once);
    }
