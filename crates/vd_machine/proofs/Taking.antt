-- An action that takes an item, over plain variables.
use Rattle.std.proofs.Common.{◌≡◌, ℕ, ◌+◌, ◌<◌, List, [], length, sym, ap, ◌∙◌, subst}
use Rattle.std.specs.Prelude.{slice_index, slice_get, slice_set, Option, Some}
use Rattle.vd_base.specs.declared.ids.HostId.{HostId}
use Rattle.vd_execution.specs.declared.instructions.Reg.{Reg}
use Rattle.vd_execution.specs.declared.instructions.Action.{Action}
use Rattle.vd_execution.specs.declared.instructions.Action.TheVariants as action
use Rattle.vd_execution.specs.Registers.{put, nth, written}
use Rattle.vd_execution.specs.Step.{need_of_action, advanced}
use Rattle.vd_tape.specs.declared.deal_items.items.Triple.{Triple}
use Rattle.vd_tape.specs.declared.deal_items.items.PairItem.{PairItem}
use Rattle.vd_machine.specs.declared.lists.Lists.{Lists}
use Rattle.vd_machine.specs.declared.lists.Taken.{Taken}
use Rattle.vd_machine.specs.Machines.{list_of, word_item, triple_item, pair_item, item_or_none, or_empty, cursors_of, IsMet, words_for, SamePeers}
use Rattle.vd_machine.proofs.Items.{peer_there, triples_further, bits_further, pairs_further}

three : (f f1 f2 f3 : ℕ → ℕ) (a b c : ℕ) (o : Option Triple) (t : Triple) → o ≡ Some t → f1 ≡ put f a t.a → f2 ≡ put f1 b t.b → f3 ≡ put f2 c t.c
    → f3 ≡ (let xs = or_empty (item_or_none triple_item o) in put (put (put f a (nth xs 0)) b (nth xs 1)) c (nth xs 2))
three f f1 f2 f3 a b c o t e e1 e2 e3 =
    e3 ∙ ap (λ g. put g c t.c) (e2 ∙ ap (λ g. put g b t.b) e1)
    ∙ ap (λ q. let xs = or_empty (item_or_none triple_item q) in put (put (put f a (nth xs 0)) b (nth xs 1)) c (nth xs 2)) (sym e)

pub triple_value : (f f1 f2 f3 : ℕ → ℕ) (l : Lists) (t : Taken) (x : Action) (p : HostId) (a b c : Reg) (i : Triple) → x ≡ action.Triple p a b c
    → slice_get (list_of l.deal.triples l.deal.me.0 p.0) (slice_index t.triples p.0) ≡ Some i → f1 ≡ put f a.0 i.a → f2 ≡ put f1 b.0 i.b → f3 ≡ put f2 c.0 i.c
    → f3 ≡ written f x (words_for l (cursors_of t) [] (need_of_action f x))
triple_value f f1 f2 f3 l t x p a b c i is e e1 e2 e3 =
    three f f1 f2 f3 a.0 b.0 c.0 _ i e e1 e2 e3 ∙ ap (λ y. written f y (words_for l (cursors_of t) [] (need_of_action f y))) (sym is)

pub bits_value : (f f1 f2 f3 : ℕ → ℕ) (l : Lists) (t : Taken) (x : Action) (p : HostId) (a b c : Reg) (i : Triple) → x ≡ action.Bits p a b c
    → slice_get (list_of l.deal.bits l.deal.me.0 p.0) (slice_index t.bits p.0) ≡ Some i → f1 ≡ put f a.0 i.a → f2 ≡ put f1 b.0 i.b → f3 ≡ put f2 c.0 i.c
    → f3 ≡ written f x (words_for l (cursors_of t) [] (need_of_action f x))
bits_value f f1 f2 f3 l t x p a b c i is e e1 e2 e3 =
    three f f1 f2 f3 a.0 b.0 c.0 _ i e e1 e2 e3 ∙ ap (λ y. written f y (words_for l (cursors_of t) [] (need_of_action f y))) (sym is)

pub pair_value : (f f1 f2 : ℕ → ℕ) (l : Lists) (t : Taken) (x : Action) (p : HostId) (a b : Reg) (i : PairItem) → x ≡ action.Pair p a b
    → slice_get (list_of l.deal.pairs l.deal.me.0 p.0) (slice_index t.pairs p.0) ≡ Some i → f1 ≡ put f a.0 i.s → f2 ≡ put f1 b.0 i.x
    → f2 ≡ written f x (words_for l (cursors_of t) [] (need_of_action f x))
pair_value f f1 f2 l t x p a b i is e e1 e2 =
    e2 ∙ ap (λ g. put g b.0 i.x) e1
    ∙ ap (λ q. let xs = or_empty (item_or_none pair_item q) in put (put f a.0 (nth xs 0)) b.0 (nth xs 1)) (sym e)
    ∙ ap (λ y. written f y (words_for l (cursors_of t) [] (need_of_action f y))) (sym is)

pub input_value : (f f1 : ℕ → ℕ) (l : Lists) (t : Taken) (x : Action) (r : Reg) (v : ℕ) → x ≡ action.Input r → slice_get l.inputs t.inputs ≡ Some v → f1 ≡ put f r.0 v
    → f1 ≡ written f x (words_for l (cursors_of t) [] (need_of_action f x))
input_value f f1 l t x r v is e e1 =
    e1 ∙ ap (λ q. put f r.0 (nth (or_empty (item_or_none word_item q)) 0)) (sym e) ∙ ap (λ y. written f y (words_for l (cursors_of t) [] (need_of_action f y))) (sym is)

abbrev Met : (ℕ → ℕ) → Lists → Taken → Action → Type 0
Met f l t x = IsMet l (cursors_of t) [] (need_of_action f x)

pub triple_cursors : (f : ℕ → ℕ) (l : Lists) (t : Taken) (x : Action) (p : HostId) (a b c : Reg) (new : List ℕ) → x ≡ action.Triple p a b c → SamePeers l t → Met f l t x
    → new ≡ slice_set t.triples p.0 (slice_index t.triples p.0 + 1) → cursors_of (record t { triples = new }) ≡ advanced (cursors_of t) (need_of_action f x)
triple_cursors f l t x p a b c new is same met e =
    let left = subst (λ y. Met f l t y) is met in
    let there : p.0 < length t.triples = subst (λ n. p.0 < n) (sym same.triples) (peer_there l.deal.triples l.deal.me.0 p.0 (slice_index t.triples p.0) left.0) in
    ap (λ n. cursors_of (record t { triples = n })) e ∙ triples_further t p.0 there ∙ ap (λ y. advanced (cursors_of t) (need_of_action f y)) (sym is)

pub bits_cursors : (f : ℕ → ℕ) (l : Lists) (t : Taken) (x : Action) (p : HostId) (a b c : Reg) (new : List ℕ) → x ≡ action.Bits p a b c → SamePeers l t → Met f l t x
    → new ≡ slice_set t.bits p.0 (slice_index t.bits p.0 + 1) → cursors_of (record t { bits = new }) ≡ advanced (cursors_of t) (need_of_action f x)
bits_cursors f l t x p a b c new is same met e =
    let left = subst (λ y. Met f l t y) is met in
    let there : p.0 < length t.bits = subst (λ n. p.0 < n) (sym same.bits) (peer_there l.deal.bits l.deal.me.0 p.0 (slice_index t.bits p.0) left.0) in
    ap (λ n. cursors_of (record t { bits = n })) e ∙ bits_further t p.0 there ∙ ap (λ y. advanced (cursors_of t) (need_of_action f y)) (sym is)

pub pair_cursors : (f : ℕ → ℕ) (l : Lists) (t : Taken) (x : Action) (p : HostId) (a b : Reg) (new : List ℕ) → x ≡ action.Pair p a b → SamePeers l t → Met f l t x
    → new ≡ slice_set t.pairs p.0 (slice_index t.pairs p.0 + 1) → cursors_of (record t { pairs = new }) ≡ advanced (cursors_of t) (need_of_action f x)
pair_cursors f l t x p a b new is same met e =
    let left = subst (λ y. Met f l t y) is met in
    let there : p.0 < length t.pairs = subst (λ n. p.0 < n) (sym same.pairs) (peer_there l.deal.pairs l.deal.me.0 p.0 (slice_index t.pairs p.0) left.0) in
    ap (λ n. cursors_of (record t { pairs = n })) e ∙ pairs_further t p.0 there ∙ ap (λ y. advanced (cursors_of t) (need_of_action f y)) (sym is)
