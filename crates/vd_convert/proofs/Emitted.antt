-- The code of conversions, call by call.
use Rattle.std.proofs.Common.{◌≡◌, List, [], ◌∷◌, ◌++◌, sym, ap, ap₂, ◌∙◌, append_assoc}
use Rattle.vd_base.specs.declared.ids.HostId.{HostId}
use Rattle.vd_base.specs.declared.operations.Op.TheVariants as op
use Rattle.vd_execution.specs.declared.instructions.Line.{Line}
use Rattle.vd_duet.specs.Builder.{Builder}
use Rattle.vd_duet.specs.Calls.{Places, Made, called}
use Rattle.vd_duet.proofs.Front.{emitted_append}
use Rattle.vd_backend_sharing.specs.declared.pair.Pair.{Pair}
use Rattle.vd_backend_sharing.specs.declared.shares.PartRegisters.{PartRegisters}
use Rattle.vd_backend_sharing.specs.declared.shares.Sharing.TheVariants as way
use Rattle.vd_backend_sharing.specs.PairCalls.{shares_of, places_at}
use Rattle.vd_bits.specs.BitCalls.{computed}
use Rattle.vd_convert.specs.Convert.{masked_parts, to_xor_made, drawn, finished, to_add_made}

-- one call and then another
both_called : {X Y : Type 0} (one : Made X) (more : Made Y) (c : Builder)
    → called more (called one c).1 ≡ called (record { given = more.given; gadgets = one.gadgets ++ more.gadgets; next = more.next }) c
both_called one more c =
    ap (λ (l : List Line). let p : _ × Builder = (more.given, record { lines = l; next = more.next }) in p)
    (append_assoc c.lines _ _ ∙ ap (λ (l : List Line). c.lines ++ l) (sym (emitted_append one.gadgets more.gadgets)))

-- to exclusive or, of hosts and parts that were found
pub to_xor_found : (a b : HostId) (x one other v : Places) (p q s : PartRegisters) (g : Pair) (c c1 c2 : Builder)
    → g ≡ record { sharing = way.Xors; first = a; second = b } → s ≡ shares_of x → ((p, q), c1) ≡ called (masked_parts g.first g.second s c.next) c
    → one ≡ places_at a b p → other ≡ places_at a b q → (v, c2) ≡ called (computed a b op.Add (one ∷ other ∷ []) c1.next) c1
    → (v, c2) ≡ called (to_xor_made a b x c.next) c
to_xor_found a b x one other v p q s g c c1 c2 g_is s_is e one_is other_is f =
    f ∙ ap₂ (λ (y z : Places). called (computed a b op.Add (y ∷ z ∷ []) c1.next) c1) one_is other_is
    ∙ ap (λ (s : (PartRegisters × PartRegisters) × Builder). called (computed a b op.Add (places_at a b s.0.0 ∷ places_at a b s.0.1 ∷ []) s.1.next) s.1)
    (e ∙ ap₂ (λ (z : Pair) (y : PartRegisters). called (masked_parts z.first z.second y c.next) c) g_is s_is)
    ∙ both_called (masked_parts a b (shares_of x) c.next)
    (computed a b op.Add
    (places_at a b (masked_parts a b (shares_of x) c.next).given.0 ∷ places_at a b (masked_parts a b (shares_of x) c.next).given.1 ∷ [])
    (masked_parts a b (shares_of x) c.next).next) c

to_add_code : (a b : HostId) (x : Places) (word rest v : Places) (p q r : PartRegisters) (c c1 c2 c3 : Builder) → ((p, q), c1) ≡ called (drawn a b (shares_of x) c.next) c
    → word ≡ places_at a b q → (rest, c2) ≡ called (computed a b op.Sub (x ∷ word ∷ []) c1.next) c1 → (r, c3) ≡ called (finished a b (shares_of rest) p c2.next) c2
    → v ≡ places_at a b r → (v, c3) ≡ called (to_add_made a b x c.next) c
to_add_code a b x word rest v p q r c c1 c2 c3 e f g h i =
    ap (λ (l : Places). let s : Places × Builder = (l, c3) in s) i
    ∙ ap (λ (s : PartRegisters × Builder). let u : Places × Builder = (places_at a b s.0, s.1) in u) h
    ∙ ap (λ (s : Places × Builder). let u : PartRegisters × Builder = called (finished a b (shares_of s.0) p s.1.next) s.1 in let z : Places × Builder = (places_at a b u.0, u.1) in z)
    (g ∙ ap (λ (l : Places). called (computed a b op.Sub (x ∷ l ∷ []) c1.next) c1) f)
    ∙ ap (λ (s : (PartRegisters × PartRegisters) × Builder).
    let t : Places × Builder = called (computed a b op.Sub (x ∷ places_at a b s.0.1 ∷ []) s.1.next) s.1 in
    let u : PartRegisters × Builder = called (finished a b (shares_of t.0) s.0.0 t.1.next) t.1 in
    let z : Places × Builder = (places_at a b u.0, u.1) in z) e
    ∙ whole
  where
    pair : Made (PartRegisters × PartRegisters)
    pair = drawn a b (shares_of x) c.next

    whole : let s = called (drawn a b (shares_of x) c.next) c in
        let t : Places × Builder = called (computed a b op.Sub (x ∷ places_at a b s.0.1 ∷ []) s.1.next) s.1 in
        let u : PartRegisters × Builder = called (finished a b (shares_of t.0) s.0.0 t.1.next) t.1 in
        let z : Places × Builder = (places_at a b u.0, u.1) in
        z ≡ called (to_add_made a b x c.next) c
    whole =
        let one = drawn a b (shares_of x) c.next in
        let two : Made Places = computed a b op.Sub (x ∷ places_at a b (drawn a b (shares_of x) c.next).given.1 ∷ []) (drawn a b (shares_of x) c.next).next in
        let three : Made PartRegisters = finished a b (shares_of two.given) (drawn a b (shares_of x) c.next).given.0 two.next in
        let rest : Made Places = record { given = places_at a b three.given; gadgets = two.gadgets ++ three.gadgets; next = three.next } in
        ap (λ (s : PartRegisters × Builder). let z : Places × Builder = (places_at a b s.0, s.1) in z) (both_called two three (called (drawn a b (shares_of x) c.next) c).1)
        ∙ both_called (drawn a b (shares_of x) c.next) rest c

-- the same, of hosts and parts that were found
pub to_add_found : (a b : HostId) (x word rest v : Places) (p q r s u : PartRegisters) (g h : Pair) (c c1 c2 c3 : Builder)
    → g ≡ record { sharing = way.Xors; first = a; second = b } → h ≡ record { sharing = way.Xors; first = a; second = b } → s ≡ shares_of x → u ≡ shares_of rest
    → ((p, q), c1) ≡ called (drawn g.first g.second s c.next) c → word ≡ places_at a b q → (rest, c2) ≡ called (computed a b op.Sub (x ∷ word ∷ []) c1.next) c1
    → (r, c3) ≡ called (finished h.first h.second u p c2.next) c2 → v ≡ places_at a b r → (v, c3) ≡ called (to_add_made a b x c.next) c
to_add_found a b x word rest v p q r s u g h c c1 c2 c3 g_is h_is s_is u_is e f i j k =
    to_add_code a b x word rest v p q r c c1 c2 c3
    (e ∙ ap₂ (λ (z : Pair) (y : PartRegisters). called (drawn z.first z.second y c.next) c) g_is s_is) f i
    (j ∙ ap₂ (λ (z : Pair) (y : PartRegisters). called (finished z.first z.second y p c2.next) c2) h_is u_is) k
