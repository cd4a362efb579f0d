-- What was read is all that the reader had, or enough of it.
use Rattle.std.proofs.Common.{◌≡◌, ℕ, ◌≤◌, ◌<◌, List, [], ◌++◌, rules, Bool, true, false, leb}
use Rattle.std.proofs.Common.{arith, refl, length, take, Some, None, IfSome, sym, ap, ◌∙◌, subst, length-take-le, append-nil}
use borrow.Author.Tests.{leb-true, leb-false}
use Rattle.std.specs.Io.KnownBytes.{Appends, Consumes, IsAtEnd}
use Rattle.std.specs.declared.option.Option.{Option}
use Rattle.definition.specs.Desk.{desk_of}
use Rattle.desk.proofs.answer.Goals as goal

module _ (P : List ℕ → Type 0) where
  pub all_or_enough : (before after : Option (List ℕ)) (buffer : List ℕ) (n : ℕ) → length buffer ≡ 98306 → n ≤ length buffer
      → Consumes before after (take n buffer) → (n < length buffer → IsAtEnd after) → P (desk_of (take n buffer))
      → (98306 ≤ length (take n buffer) → (rest : List ℕ) → P (desk_of (take n buffer ++ rest))) → IfSome before (λ xs. P (desk_of xs))
  all_or_enough None after buffer n size within took end p q = tt
  all_or_enough (Some xs) None buffer n size within took end p q = absurd took
  all_or_enough (Some xs) (Some ys) buffer n size within took end p q = go (leb 98306 n) refl
    where
      go : (t : Bool) → leb 98306 n ≡ t → P (desk_of xs)
      go true e =
          let full : 98306 ≤ n = leb-true _ _ e in
          let long : length (take n buffer) ≡ n = length-take-le n buffer within in
          subst (λ l. P (desk_of l)) (sym took) (q (omega (arith, long)) ys)
      go false e =
          let short : n < 98306 = leb-false _ _ e in
          let none : ys ≡ [] = end (omega (arith, size)) in
          subst (λ l. P (desk_of l)) (sym (took ∙ ap (λ l. take n buffer ++ l) none ∙ append-nil (take n buffer))) p

pub returns-in-Some : goal.returns-in-Some
returns-in-Some g c p =
    all_or_enough (Appends _ _) _ _ c.read_full.new.buf c.in-Some.n (search rules) c.in-Some.ensures.within c.in-Some.ensures.taken.0
    c.in-Some.ensures.taken.1 (c.print_answer.ensures.answer p) (c.print_answer.ensures.front p)
