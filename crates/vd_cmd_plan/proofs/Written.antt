-- One piece of bytes after others.
use Rattle.std.proofs.Common.{◌≡◌, ◌++◌, ◌+◌, ◌<◌, ℕ, min, List, [], ◌∷◌, get_or, Result, Ok, Err, Bor, inl, inr, subst, length, take, drop, arith, ap, sym, ◌∙◌, append_assoc}
use Rattle.std.proofs.Math.Seq.{take-append-add}
use Rattle.std.proofs.lemmas.List.{take_all, append-nil, take-append-le, take-append-drop, take_min}
use Rattle.std.proofs.lemmas.Grind.{take_at_read, flat_map-append}
use Rattle.std.specs.List.{flat_map}
use Rattle.vd_outside.specs.Sink.{SinkView, WritesAll}
use Rattle.vd_cmd_plan.specs.Lines.{Says}

writes_ok : {E : Type 0} (xs ys : List ℕ) (before mid now : SinkView) → WritesAll {E = E} xs before mid (Ok tt) → WritesAll {E = E} ys mid now (Ok tt) → WritesAll {E = E} (xs ++ ys) before now (Ok tt)
writes_ok xs ys before mid now a b = record {
  later = let x = a.later in let y = b.later in omega arith;
  failed = tt;
  was_told = λ t. a.was_told (b.was_told t);
  whole = λ t. b.whole t ∙ ap (λ (l : List ℕ). l ++ ys) (a.whole (b.was_told t)) ∙ append_assoc before.taken xs ys;
  part = λ t. tt;
}

pub writes_err : {E : Type 0} (xs ys zs : List ℕ) (before mid now : SinkView) (e : E) → WritesAll {E = E} xs before mid (Ok tt) → WritesAll {E = E} ys mid now (Err e) → WritesAll {E = E} (xs ++ (ys ++ zs)) before now (Err e)
writes_err xs ys zs before mid now e a b = record {
  later = let x = a.later in let y = b.later in omega arith;
  failed = let x = a.later in let y = b.failed in omega arith;
  was_told = λ t. a.was_told (b.was_told t);
  whole = λ t. tt;
  part = λ t. cut (b.part t) (a.whole (b.was_told t));
}
  where
    cut : ((count : ℕ) × (now.taken ≡ mid.taken ++ take count ys)) → mid.taken ≡ before.taken ++ xs → (count : ℕ) × (now.taken ≡ before.taken ++ take count (xs ++ (ys ++ zs)))
    cut p is = (
      length xs + min p.0 (length ys),
      p.1 ∙ ap (λ (l : List ℕ). l ++ take p.0 ys) is ∙ append_assoc before.taken xs (take p.0 ys)
          ∙ ap (λ (l : List ℕ). before.taken ++ (xs ++ l)) (sym (take-append-le (min p.0 (length ys)) ys zs (omega arith) ∙ take_min p.0 ys))
          ∙ ap (λ (l : List ℕ). before.taken ++ l) (sym (take-append-add xs (ys ++ zs) (min p.0 (length ys)))),
    )

abbrev bytes_of : List (Bor (List ℕ)) → List ℕ
bytes_of parts = flat_map (λ part. part.now) parts

parts_at : (parts : List (Bor (List ℕ))) (i : ℕ) (d : Bor (List ℕ)) → i < length parts → bytes_of (take i parts) ++ ((get_or parts i d).now ++ bytes_of (drop (i + 1) parts)) ≡ bytes_of parts
parts_at parts i d h =
    sym (append_assoc (bytes_of (take i parts)) (get_or parts i d).now (bytes_of (drop (i + 1) parts)))
    ∙ ap (λ (l : List ℕ). l ++ bytes_of (drop (i + 1) parts)) (sym front)
    ∙ sym (flat_map-append (λ (part : Bor (List ℕ)). part.now) (take (i + 1) parts) (drop (i + 1) parts))
    ∙ ap bytes_of (take-append-drop (i + 1) parts)
  where
    front : bytes_of (take (i + 1) parts) ≡ bytes_of (take i parts) ++ (get_or parts i d).now
    front = ap bytes_of (take_at_read parts i d h).1
        ∙ flat_map-append (λ (part : Bor (List ℕ)). part.now) (take i parts) (get_or parts i d ∷ [])
        ∙ ap (λ (l : List ℕ). bytes_of (take i parts) ++ l) (append-nil (get_or parts i d).now)

pub parts_err : {E : Type 0} (parts : List (Bor (List ℕ))) (i : ℕ) (d : Bor (List ℕ)) (before mid now : SinkView) (e : E) → i < length parts → WritesAll {E = E} (bytes_of (take i parts)) before mid (Ok tt) → WritesAll {E = E} (get_or parts i d).now mid now (Err e) → WritesAll {E = E} (bytes_of parts) before now (Err e)
parts_err {E = E} parts i d before mid now e h a b = subst (λ (l : List ℕ). WritesAll {E = E} l before now (Err e)) (parts_at parts i d h) (writes_err _ _ (bytes_of (drop (i + 1) parts)) before mid now e a b)

pub says : {E : Type 0} (line : List ℕ) (before now : SinkView) (result : Result (Unit {0}) E) → WritesAll {E = E} line before now result → Says line before now
says line before now (Ok done) w = record {
  later = w.later;
  was_told = w.was_told;
  part = λ t. (length line, w.whole t ∙ ap (λ (l : List ℕ). before.taken ++ l) (sym (take_all (length line) line (omega arith))));
  whole = λ t. inr (w.whole t);
}
says line before now (Err e) w = record { later = w.later; was_told = w.was_told; part = w.part; whole = λ t. inl w.failed }

-- what failed within the front of a text failed within the text
pub writes_front : {E : Type 0} (xs ys : List ℕ) (before now : SinkView) (e : E) → WritesAll {E = E} xs before now (Err e) → WritesAll {E = E} (xs ++ ys) before now (Err e)
writes_front xs ys before now e w = record {
  later = w.later;
  failed = w.failed;
  was_told = w.was_told;
  whole = λ t. tt;
  part = λ t. shorter (w.part t);
}
  where
    shorter : ((count : ℕ) × (now.taken ≡ before.taken ++ take count xs)) → (count : ℕ) × (now.taken ≡ before.taken ++ take count (xs ++ ys))
    shorter p = (min p.0 (length xs), p.1 ∙ ap (λ (l : List ℕ). before.taken ++ l) (sym (take-append-le (min p.0 (length xs)) xs ys (omega arith) ∙ take_min p.0 xs)))

-- a text is written behind another one, whatever comes of it
pub writes_behind : {E : Type 0} (xs ys : List ℕ) (before mid now : SinkView) (result : Result (Unit {0}) E) → WritesAll {E = E} xs before mid (Ok tt) → WritesAll {E = E} ys mid now result → WritesAll {E = E} (xs ++ ys) before now result
writes_behind xs ys before mid now (Ok done) a b = writes_ok xs ys before mid now a b
writes_behind {E = E} xs ys before mid now (Err e) a b = subst (λ (l : List ℕ). WritesAll {E = E} (xs ++ l) before now (Err e)) (append-nil ys) (writes_err xs ys [] before mid now e a b)
