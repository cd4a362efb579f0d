-- The loop over all pairs: kinds as the plan has them, and the walk's end.
use Prim.Native.Nat.{ℕ, suc, ◌+◌, ◌-◌, ◌*◌, ◌≤◌, ◌<◌}
use native.Mathlib.Omega.{arith}
use mathlib.Core.Path.{◌≡◌, ap, sym, ◌∙◌}
use mathlib.Core.List.{List}
use lib.ListN.{length, set, replicate, length-replicate}
use lib.Seq.{sets}
use Rattle.definition.specs.Base.{accepted}
use Rattle.definition.specs.Limits.{structure_limit, field_limit}
use Rattle.definition.specs.Names.{numbered}
use Rattle.definition.specs.Walk.{State, structure_at, walk_from, initial_state, nothing_taken, named_rules, group_name}
use Rattle.laws.specs.KindTable.{kind_at}
use Rattle.rule.specs.Views.{RuleBy, SoundBy, Sound}
use Rattle.rule.specs.declared.tail.MorphismKind as read
use Rattle.naming.specs.Variables.{row_of, new_in}
use Rattle.naming.proofs.News.{types_of}
use Rattle.std.specs.Prelude.{Some, None}
use Rattle.plan.specs.Table.{Entry, kind_in, kinds_all}
use Rattle.walk.specs.declared.tables.Tables.{Tables}
use Rattle.walk.specs.Tables.{unreached, no_tables, all_masks, source_at, kind_on}
use Rattle.walk.specs.Left.{left_of, Going}
use Rattle.walk.specs.Ended.{Ended}
use Rattle.walk.specs.Walked.{state_left}
use Rattle.walk.specs.Went.{Kinded, whole_walk, Went}
use Rattle.std.proofs.Common.{Ok}
use Rattle.walk.proofs.Starting.{few_rows, started}
use Rattle.walk.proofs.Reaching.{news_none, emitted_none}
use Rattle.walk.proofs.Folding.{left_all, pass_on, turn}

-- The walk stands at two structures.
pub record Standing (x : RuleBy) (n target source : ℕ) : Type 0 where
  pub sound : SoundBy x
  pub counted : n ≡ length x.rule.structures
  pub target_in : target < n
  pub source_in : source < n

module _ {x : RuleBy} {n target source : ℕ} (at : Standing x n target source) where
  source_inside : source < length x.rule.structures
  source_inside = let e = at.counted in let l = at.source_in in omega arith

  target_inside : target < length x.rule.structures
  target_inside = let e = at.counted in let h = at.target_in in omega arith

  pub within : (source < structure_limit) × (target < structure_limit)
  within = let f = at.sound.sound.structures_few in let a = source_inside in let b = target_inside in (omega arith, omega arith)

  -- A pair without a kind is passed by;
  pub skip : {entry : Entry} {tb : Tables} {types : List ℕ} {next : ℕ} → kind_in entry ≡ kind_at (kinds_all x.rule) source target → entry ≡ None
      → Going x tb types next target source → Going x tb types next target (source + 1)
  unfolding kind_on
  skip e h g = let n : source + 1 ≡ suc source = omega arith in rw n (pass_on g target_inside source_inside (sym (rw h at e)))

  -- one with a kind is walked.
  pub kinded : {entry : Entry} {kind : read.MorphismKind} → kind_in entry ≡ kind_at (kinds_all x.rule) source target → entry ≡ Some kind
      → Kinded x source target kind
  unfolding kind_on
  kinded e h = record { source_in = source_inside; target_in = target_inside; on = sym (rw h at e) }

-- What `walk_map` answered, where the walk goes on.
pub went_further : {x : RuleBy} {types : List ℕ} {tb : Tables} {next u t source target : ℕ} → u ≡ source → t ≡ target → Went (Ok next) x tb types t u
    → Going x tb types next target (source + 1)
went_further {source = source} p q w = let n : source + 1 ≡ suc source = omega arith in rw n (rw (p, q) at w.is)

-- The next target.
pub next_target : {x : RuleBy} {types : List ℕ} {tb : Tables} {next target n source : ℕ} → n ≡ length x.rule.structures → target < n → source ≡ n
    → Going x tb types next target source → Going x tb types next (target + 1) 0
next_target {x} {types} {tb} {next} {target} e h f w =
    let q : target + 1 ≡ suc target = omega arith in
    let g : Going x tb types next target (length x.rule.structures) = rw (f ∙ e) at w in rw q (turn g (omega arith))

-- All pairs are behind: the walk has ended.
finish : {x : RuleBy} {types : List ℕ} {tb : Tables} {next target source n : ℕ} → SoundBy x → n ≡ length x.rule.structures → target ≡ n
    → Going x tb types next target source → (state : State) × (whole_walk x ≡ accepted state) × Ended x.rule tb types state
unfolding left_of walk_from
finish {x} {tb = tb} {next} {target} s e a g =
    let w = g.walking in
    let c : length x.rule.structures ≡ target = omega arith in
    let z : length x.rule.structures - target ≡ 0 = omega arith in
    let o : source_at tb target ≡ unreached = w.ties.others target (omega arith) in
    let f = w.fewer o in let k = s.sound.structures_few in let m = w.next_is in (
      g.state,
      g.rest ∙ rw z,
      record {
        ties = w.ties;
        first_reached = w.first_reached;
        variables = rw c (w.variables ∙ news_none x.rule tb target o);
        rules = rw c (w.rules ∙ ap (named_rules (group_name x.rule) 0) (emitted_none x.rule tb g.state target o));
        few = omega arith;
        types_are = w.types_are;
        types_long = let l = w.types_long in omega arith;
      },
    )

pub ended_walk : {x : RuleBy} {types : List ℕ} {tb : Tables} {next target source n : ℕ} → SoundBy x → n ≡ length x.rule.structures → target ≡ n
    → Going x tb types next target source → (whole_walk x ≡ accepted (state_left x)) × Ended x.rule tb types (state_left x)
unfolding state_left
ended_walk {x} s e a g =
    let y = finish s e a g in
    let q : state_left x ≡ y.0 = rw y.1 in
    (rw (y.1), rw q y.2)

-- The walk begins: of the structures only 0 is reached and has a row of variables.
pub begin_walk : {x : RuleBy} → SoundBy x → Sound (record { sig = x.sig; structure = structure_at x.rule 0 })
    → {types types' row : List ℕ} {next n : ℕ} (size : ℕ) → types ≡ replicate size 0
    → n ≡ length x.rule.structures → field_limit * n ≤ length types → row ≡ row_of (numbered 0 (nothing_taken (structure_at x.rule 0)))
    → types' ≡ sets types 0 (types_of (new_in (structure_at x.rule 0) 0 row)) → next ≡ length (structure_at x.rule 0).elements
    → Going x (record {
      sources = set no_tables.sources 0 (Some 0);
      masks = set no_tables.masks 0 all_masks;
      vars = set no_tables.vars 0 row;
    }) types' next 0 0
begin_walk {x} s first {types} {types'} {next = next} size b a h e f c =
    let l : length types ≡ size = ap length b ∙ length-replicate {A = ℕ} size 0 in
    let g : types' ≡ sets (replicate size 0) 0 (types_of (new_in (structure_at x.rule 0) 0 (row_of (numbered 0 (nothing_taken (structure_at x.rule 0))))))
    = f ∙ rw (b, e) in
    rw (c, e) (record {
      state = initial_state x.rule;
      walking = started x.rule (few_rows first) s.sound.structures_some s.sound.structures_few size (omega arith) g;
      rest = ap (walk_from x.sig x.rule (initial_state x.rule)) (left_all x.rule s.once s.sound.structures_some);
    })
