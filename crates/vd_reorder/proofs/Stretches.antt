-- A piece goes before a whole block.
use Rattle.std.proofs.Common.{◌≡◌, ◌⊎◌, inl, inr, ℕ, suc, ◌≤◌, ◌<◌, nat_eq, nat_lt, List, [], ◌∷◌, ◌++◌, Bool, true, false, if◌then◌else◌, Option, Some, None, refl, sym, ap, ◌∙◌, subst, arith}
use Rattle.std.proofs.lemmas.Bool.{ltb-true}
use Rattle.vd_execution.specs.declared.instructions.Action.{Action}
use Rattle.vd_execution.specs.declared.instructions.Action.TheVariants as action
use Rattle.vd_execution.specs.Registers.{Registers, put, written}
use Rattle.vd_execution.specs.Code.{Code, Finished, Then, Send, Recv, Choose, Repeat, followed_by}
use Rattle.vd_execution.specs.Step.{Source, Given, answer, need, next, deed, deed_of_print, word_printed}
use Rattle.vd_execution.specs.Text.{register}
use Rattle.vd_execution.specs.World.{Local, done, moved_on}
use Rattle.vd_execution.proofs.Front.{done_state}
use Rattle.vd_reorder.specs.Hastening.{Piece, Acts, Sends, Awaits, before, at, without_packets, MayPass, Stretch, One, Branch, Loop, stretch_before, MayPassAll, MayPassStretch, Place, Here, BehindBranch, BehindLoop, IsHastened}
use Rattle.vd_reorder.proofs.Turned.{piece_moves, piece_leaves}
use Rattle.vd_reorder.proofs.Exchanged.{Pair, old_of, new_of, SomeLead, none_lead, exchanged_behind}
use Rattle.vd_reorder.proofs.ReorderLawsPassing.{Around, on, lifted, piece_first, none, exchange_stretch}

-- ---- before all of a code

behind_branch : (g : ℕ) (first other : Code) → Around (λ c. Choose g first other c)
behind_branch g first other = record { place = λ p. BehindBranch g first other p; stands = λ p c. refl }

behind_loop : (r t n : ℕ) (body : Code) → Around (λ c. Repeat r t n body c)
behind_loop r t n body = record { place = λ p. BehindLoop r t n body p; stands = λ p c. refl }

through : (y : Piece) (a : Code) → MayPassAll y a → (rest : Code) → IsHastened (followed_by a (before y rest)) (before y (followed_by a rest))
through y Finished m rest = none _
through y (Then a c) m rest =
    on _ (Then a (before y (followed_by c rest))) _ (lifted (before (Acts a)) (piece_first (Acts a)) (followed_by c (before y rest)) (before y (followed_by c rest)) (through y c m.1 rest))
    (exchange_stretch (One (Acts a)) y (followed_by c rest) m.0)
through y (Send p rs c) m rest = absurd m
through y (Recv p rs c) m rest = absurd m
through y (Choose g first other c) m rest =
    on _ (Choose g first other (before y (followed_by c rest))) _
    (lifted (λ d. Choose g first other d) (behind_branch g first other) (followed_by c (before y rest)) (before y (followed_by c rest)) (through y c m.1 rest))
    (exchange_stretch (Branch g first other) y (followed_by c rest) m.0)
through y (Repeat r t n body c) m rest =
    on _ (Repeat r t n body (before y (followed_by c rest))) _
    (lifted (λ d. Repeat r t n body d) (behind_loop r t n body) (followed_by c (before y rest)) (before y (followed_by c rest)) (through y c m.1 rest))
    (exchange_stretch (Loop r t n body) y (followed_by c rest) m.0)

-- ---- what goes before a printed word leaves it as it is

no_items : Source → ℕ → List ℕ
no_items s i = []

-- a host that has printed nothing
abbrev silent_host : Local → Local
silent_host l = record l { printed = [] }

printed_after : (l : Local) (a : Action) (c : Code) (ys : List ℕ) → word_printed l.state.registers a ≡ None → (moved_on (at l (Then a c)) ys).printed ≡ l.printed
printed_after l a c ys e = ap (λ o. (done (at l (Then a c)) (next (at l (Then a c)).state ys) (deed_of_print o)).printed) e

after_action : (l : Local) (a : Action) (c : Code) (ys : List ℕ) → (moved_on (at l (Then a c)) ys).state ≡ next (at l (Then a c)).state ys
after_action l a c ys = done_state (at l (Then a c)) (next (at l (Then a c)).state ys) (deed (at l (Then a c)).state)

same_only : (x y : ℕ) → x ∷ [] ≡ y ∷ [] → x ≡ y
same_only x y e = cc

by_print : (g : ℕ) (a : Action) → ((f : Registers) → word_printed f a ≡ None) → MayPass (Acts (action.Print (register g))) (Acts a) → (l : Local) (c : Code) (ys : List ℕ)
    → (moved_on (at l (Then a c)) ys).state.registers g ≡ l.state.registers g
by_print g a silent may l c ys =
    let k : Local = silent_host l in
    let w : Registers = written l.state.registers a ys in
    let p : Code = Then (action.Print (register g)) Finished in
    let printed : Local = moved_on (at k (Then (action.Print (register g)) (Then a Finished))) [] in
    let acted : Local = moved_on (at k (Then a p)) ys in
    let first : (moved_on printed ys).printed ≡ l.state.registers g ∷ [] = printed_after printed a Finished ys (silent l.state.registers) in
    let stands : acted ≡ at acted p = ap (at acted) (piece_leaves (Acts a) k p ys) in
    let there : acted.state.registers ≡ w = ap (λ m. m.registers) (after_action k a p ys) in
    let none : acted.printed ≡ [] = printed_after k a p ys (silent l.state.registers) in
    let second : (moved_on acted []).printed ≡ w g ∷ [] =
    ap (λ m. (moved_on m []).printed) stands ∙ ap (λ f. acted.printed ++ f g ∷ []) there ∙ ap (λ o. o ++ w g ∷ []) none in
    let both : w g ∷ [] ≡ l.state.registers g ∷ [] = sym second ∙ sym (ap (λ m. m.printed) (may.same k Finished [] ys)) ∙ first in
    ap (λ m. m.registers g) (after_action l a c ys) ∙ same_only (w g) (l.state.registers g) both

pub leaves : (g : ℕ) (y : Piece) → MayPass (Acts (action.Print (register g))) y → (l : Local) (c : Code) (ys : List ℕ) → (moved_on (at l (before y c)) ys).state.registers g ≡ l.state.registers g
leaves g (Sends p rs) may l c ys = refl
leaves g (Awaits p rs) may l c ys = let e = may.early no_items l Finished in absurd cc
leaves g (Acts (action.Const r k)) may l c ys = by_print g _ (λ f. refl) may l c ys
leaves g (Acts (action.Copy r x)) may l c ys = by_print g _ (λ f. refl) may l c ys
leaves g (Acts (action.Apply o r x y)) may l c ys = by_print g _ (λ f. refl) may l c ys
leaves g (Acts (action.Shl r x k)) may l c ys = by_print g _ (λ f. refl) may l c ys
leaves g (Acts (action.Shr r x k)) may l c ys = by_print g _ (λ f. refl) may l c ys
leaves g (Acts (action.Mux r i x y)) may l c ys = by_print g _ (λ f. refl) may l c ys
leaves g (Acts (action.Own r)) may l c ys = by_print g _ (λ f. refl) may l c ys
leaves g (Acts (action.Triple p x y z)) may l c ys = by_print g _ (λ f. refl) may l c ys
leaves g (Acts (action.Bits p x y z)) may l c ys = by_print g _ (λ f. refl) may l c ys
leaves g (Acts (action.Pair p s x)) may l c ys = by_print g _ (λ f. refl) may l c ys
leaves g (Acts (action.Input r)) may l c ys = by_print g _ (λ f. refl) may l c ys
leaves g (Acts (action.Print r)) may l c ys = refl
leaves g (Acts (action.Hash d n v)) may l c ys = by_print g _ (λ f. refl) may l c ys
leaves g (Acts (action.Same x y)) may l c ys = refl
leaves g (Acts (action.Zero r count)) may l c ys = by_print g _ (λ f. refl) may l c ys
leaves g (Acts (action.Get r x count i)) may l c ys = by_print g _ (λ f. refl) may l c ys
leaves g (Acts (action.Put x count i s)) may l c ys = by_print g _ (λ f. refl) may l c ys

-- ---- where a piece goes before a stretch that is next

-- Behind the first step of the stretch the piece can be brought to the front; it could have been done before, with the same words; and
-- in either order the host gets to the same place.
pub record Meets (l : Local) (q : Pair) : Type 0 where
  pub left : Code
  pub leads : (xs : List ℕ) → SomeLead (moved_on (at l (old_of q)) xs).state.pending (before q.second left)
  pub words : (Source → ℕ → List ℕ) → List ℕ
  pub late : (items : Source → ℕ → List ℕ) (xs : List ℕ)
      → answer (without_packets items) (moved_on (at l (old_of q)) xs).state.cursors (need (at (moved_on (at l (old_of q)) xs) (before q.second left)).state) ≡ Some (words items)
  pub early : (items : Source → ℕ → List ℕ) → answer (without_packets items) l.state.cursors (need (at l (new_of q)).state) ≡ Some (words items)
  pub kept : (g : Given) (xs ys : List ℕ) → answer g l.state.cursors (need (at l (old_of q)).state) ≡ Some xs
      → answer g (moved_on (at l (new_of q)) ys).state.cursors (need (moved_on (at l (new_of q)) ys).state) ≡ Some xs
  pub needs : (ys : List ℕ) → need (moved_on (at l (new_of q)) ys).state ≡ need (at l (old_of q)).state
  pub takes_none : (k : Local) (c : Code) (ys : List ℕ) → (moved_on (at k (before q.second c)) ys).taken ≡ k.taken
  pub same : (xs ys : List ℕ) → moved_on (at (moved_on (at l (old_of q)) xs) (before q.second left)) ys ≡ moved_on (moved_on (at l (new_of q)) ys) xs

-- what stands behind a piece is left
left_behind : (y : Piece) (l : Local) (c : Code) (ys : List ℕ) → at (moved_on (at l (before y c)) ys) c ≡ moved_on (at l (before y c)) ys
left_behind y l c ys = ap (at (moved_on (at l (before y c)) ys)) (sym (piece_leaves y l c ys))

one_meets : (l : Local) (x y : Piece) (rest : Code) (may : MayPass x y) → Meets l (record { first = One x; second = y; rest = rest; may = may })
one_meets l x y rest may = record {
  left = rest;
  leads = λ xs. subst (λ c. SomeLead c (before y rest)) (sym (piece_leaves x l (before y rest) xs)) (none_lead (before y rest));
  words = λ items. may.words items l;
  late = λ items xs.
      ap (λ (k : Local). answer (without_packets items) (moved_on (at l (before x (before y rest))) xs).state.cursors (need k.state)) (left_behind x l (before y rest) xs) ∙ may.late items l rest xs;
  early = λ items. may.early items l (before x rest);
  kept = λ g xs ys e. may.kept g l (before y rest) rest xs ys e;
  needs = λ ys. may.needs l (before y rest) rest ys;
  takes_none = λ k c ys. may.takes_none k c ys;
  same = λ xs ys. ap (λ k. moved_on k ys) (left_behind x l (before y rest) xs) ∙ may.same l rest xs ys;
}

either_leads : (b : Bool) (y : Piece) (first other rest : Code) → MayPassAll y first → MayPassAll y other
    → SomeLead (followed_by (if b then other else first) (before y rest)) (before y (followed_by (if b then other else first) rest))
either_leads true y first other rest a o = through y other o rest
either_leads false y first other rest a o = through y first a rest

branch_meets : (l : Local) (g : ℕ) (first other : Code) (y : Piece) (rest : Code) (may : MayPassStretch (Branch g first other) y)
    → Meets l (record { first = Branch g first other; second = y; rest = rest; may = may })
branch_meets l g first other y rest may =
    let p = may.0 in
    let block : Code = Choose g first other rest in
    let left : Code = followed_by (if nat_eq (l.state.registers g) 0 then other else first) rest in
    let needs : (ys : List ℕ) → need (moved_on (at l (before y block)) ys).state ≡ need (at l block).state = λ ys. ap (λ (k : Local). need k.state) (sym (left_behind y l block ys)) in
    record {
      left = left;
      leads = λ xs. either_leads (nat_eq (l.state.registers g) 0) y first other rest may.1.0 may.1.1;
      words = λ items. p.words items l;
      late = λ items xs. p.early items l left;
      early = λ items. p.early items l block;
      kept = λ g xs ys e. ap (answer g (moved_on (at l (before y block)) ys).state.cursors) (needs ys) ∙ e;
      needs = needs;
      takes_none = λ k c ys. p.takes_none k c ys;
      same = λ xs ys.
          let done : Local = moved_on (at l (before y left)) ys in
          sym (ap (λ k. moved_on k xs) (piece_moves y l left block ys)
          ∙ ap (λ z. at done (followed_by (if nat_eq z 0 then other else first) rest)) (leaves g y p l left ys)
          ∙ left_behind y l left ys);
    }

module _ (r t n : ℕ) (body : Code) where
  -- the first step of a turn is the action that counts it
  pub turns : (k : Local) (c : Code) (xs : List ℕ) → nat_lt t n ≡ true
      → moved_on (at k (Repeat r t n body c)) xs ≡ at (moved_on (at k (Then (action.Const (register r) t) Finished)) []) (followed_by body (Repeat r (suc t) n body c))
  turns k c xs e =
      ap (λ (b : Bool). record k {
        state = record {
          pending = if b then followed_by body (Repeat r (suc t) n body c) else c;
          registers = if b then put k.state.registers r t else k.state.registers;
          cursors = k.state.cursors;
        };
      }) e

  pub is_over : (k : Local) (c : Code) (xs : List ℕ) → nat_lt t n ≡ false → moved_on (at k (Repeat r t n body c)) xs ≡ at k c
  is_over k c xs e =
      ap (λ (b : Bool). record k {
        state = record {
          pending = if b then followed_by body (Repeat r (suc t) n body c) else c;
          registers = if b then put k.state.registers r t else k.state.registers;
          cursors = k.state.cursors;
        };
      }) e

  module _ (l : Local) (y : Piece) (rest : Code) (may : MayPassStretch (Loop r t n body) y) where
    abbrev q : Pair
    q = record { first = Loop r t n body; second = y; rest = rest; may = may }

    loop_needs : (ys : List ℕ) → need (moved_on (at l (new_of q)) ys).state ≡ need (at l (old_of q)).state
    loop_needs ys = ap (λ (k : Local). need k.state) (sym (left_behind y l (Repeat r t n body rest) ys))

    loop_meets : (b : Bool) → nat_lt t n ≡ b → Meets l q
    loop_meets true e =
        let lt : t < n = ltb-true t n e in
        let p = may.0 t (omega (arith, lt)) in
        let block : Code = Repeat r t n body rest in
        let more : Code = Repeat r (suc t) n body rest in
        let left : Code = followed_by body more in
        let count : Piece = Acts (action.Const (register r) t) in
        let chain : SomeLead (followed_by body (Repeat r (suc t) n body (before y rest))) (before y left) =
        on _ (followed_by body (before y more)) _
        (1, (followed_by body (before y more), exchanged_behind body Here (record { first = Loop r (suc t) n body; second = y; rest = rest; may = may }), refl))
        (through y body may.1 more) in
        record {
          left = left;
          leads = λ xs. subst (λ (k : Local). SomeLead k.state.pending (before y left)) (sym (turns l (before y rest) xs e)) chain;
          words = λ items. p.words items l;
          late = λ items xs.
              ap (λ (k : Local). answer (without_packets items) k.state.cursors (need (at k (before y left)).state)) (turns l (before y rest) xs e) ∙ p.late items l left [];
          early = λ items. p.early items l block;
          kept = λ g xs ys a. ap (answer g (moved_on (at l (before y block)) ys).state.cursors) (loop_needs ys) ∙ a;
          needs = loop_needs;
          takes_none = λ k c ys. p.takes_none k c ys;
          same = λ xs ys.
              let done : Local = moved_on (at l (before y left)) ys in
              ap (λ k. moved_on (at k (before y left)) ys) (turns l (before y rest) xs e)
              ∙ p.same l left [] ys
              ∙ ap (λ k. moved_on k []) (piece_moves y l left (before count left) ys)
              ∙ sym (ap (λ k. moved_on k xs) (piece_moves y l left block ys) ∙ turns done rest xs e);
        }
    loop_meets false e =
        let p = may.0 n (omega arith) in
        let block : Code = Repeat r t n body rest in
        record {
          left = rest;
          leads = λ xs. subst (λ (k : Local). SomeLead k.state.pending (before y rest)) (sym (is_over l (before y rest) xs e)) (none_lead (before y rest));
          words = λ items. p.words items l;
          late = λ items xs.
              ap (λ (k : Local). answer (without_packets items) k.state.cursors (need (at k (before y rest)).state)) (is_over l (before y rest) xs e) ∙ p.early items l rest;
          early = λ items. p.early items l block;
          kept = λ g xs ys a. ap (answer g (moved_on (at l (before y block)) ys).state.cursors) (loop_needs ys) ∙ a;
          needs = loop_needs;
          takes_none = λ k c ys. p.takes_none k c ys;
          same = λ xs ys.
              let done : Local = moved_on (at l (before y rest)) ys in
              ap (λ k. moved_on (at k (before y rest)) ys) (is_over l (before y rest) xs e)
              ∙ sym (ap (λ k. moved_on k xs) (piece_moves y l rest block ys) ∙ is_over done rest xs e ∙ left_behind y l rest ys);
        }

by_stretch : (l : Local) (x : Stretch) (y : Piece) (rest : Code) (may : MayPassStretch x y) → Meets l (record { first = x; second = y; rest = rest; may = may })
by_stretch l (One x) y rest may = one_meets l x y rest may
by_stretch l (Branch g first other) y rest may = branch_meets l g first other y rest may
by_stretch l (Loop r t n body) y rest may = loop_meets r t n body l y rest may (nat_lt t n) refl

pub meets : (l : Local) (q : Pair) → Meets l q
meets l q = by_stretch l q.first q.second q.rest q.may
