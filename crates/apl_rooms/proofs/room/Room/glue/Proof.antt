-- Two rooms that lie side by side are glued. Assumes `Logic`.
use mathlib.Core.Path.{◌≡◌, refl, sym, subst, ap, ◌∙◌}
use mathlib.Core.Bool.{Bool, true}
use Prim.Native.Nat.{ℕ, ◌+◌, ◌*◌, ◌<◌, ◌^◌}
use native.Mathlib.Omega.{arith}
use mathlib.Core.List.{List, [], ◌∷◌, ◌++◌}
use lib.ListN.{length, replicate, length-replicate, length-append}
use mir.Syntax.{Fn}
use mir.Val.{Val}
use seplogic.Ra.Ura.{Ura}
use mir.MapTy.{inst_fn}
use base.Logic.{SProp, ent, id⊢}
use prog.Memory.{Memory}
use prog.Routine.{Routine}
use prog.Wp.{Env, WpFn, Tables}
use types.Logic.{Logic}
use contract.BorrowLft.{◌⊑◌}
use contract.Monad.{Fun, fact}
use contract.Running.{tables, tables_of}
use denote.RattleType.{owns}
use denote.Signature.{plain, types_at}
use denote.Steps.{heard, nothing}
use denote.Triple.Clauses.{Clauses, Ended, closing}
use denote.Triple.Spec.{Meets, triple_of}
use denote.Triple.Table.{entered}
use sound.WpLaws.{WpFn-mono}
use types.Kit.{‵, raw, ◌⊛◌, ◌$◌, ◌∵◌, !, qed, move, keep, drop, use2, split, rewrite, fsplit, fjoin3, suffices, done}
use types.Part.{whole, sub, agg}
use types.Run.{stop, fld, of_opd, bin, and_then, no_more, returns, enter}
use types.ByLocal.{alloc_all, pass_all, free_all, look_at, get, get_in, sets, env}
use denote.Exit.{no}
use denote.RawPtr.{Ptr, block_ptr}
use denote.Triple.Entry.{alive}
use denote.Triple.Walked.{says, Stays, stay_dropped, walk_of, ends_at, Goes-dropped, walk_Meets}
use Rattle.core.specs.Ptr.{ptr_add}
use Rattle.core.specs.Mem.Slots.Ownership.{slots}
use Rattle.core.proofs.mem.Param.{El, R, args}
use Prim.Native.Nat.{zero, suc}
use Rattle.core.proofs.slots.Places.{sz, row_glue}
use Rattle.core.proofs.slots.Opens.{row_val}
use Rattle.apl_rooms.proofs.Opens.{Rr, room_d, room_had, room_made}
use Rattle.apl_rooms.specs.contracts.room.Room.glue as F
use Rattle.apl_rooms.specs.contracts.room.Room.glue.Key.{name as #self}
use Rattle.apl_rooms.proofs.room.Room.glue.Statement as stated
use Rattle.apl_rooms.proofs.room.Room.glue.Code as code

trues : (m k : ℕ) → replicate m true ++ replicate k true ≡ replicate (m + k) true
trues zero k = sym (ap (λ (j : ℕ). replicate j true) (let e : 0 + k ≡ k = omega arith in e))
trues (suc m) k = ap (λ (l : List Bool). true ∷ l) (trues m k) ∙ sym (ap (λ (j : ℕ). replicate j true) (let e : suc m + k ≡ suc (m + k) = omega arith in e))

module _ (E : El) where
  abbrev here : Fn
  here = inst_fn (args E) code.function

  abbrev ended : Ended
  ended = F.ended E.row

  abbrev stayed : Stays ended.signature.params ended.kept
  stayed = (stay_dropped (plain (λ _. Rr E)) no, (stay_dropped (plain (λ _. Rr E)) no, tt))

  module _ {M : Type 1} {𝓤 : Ura M} (𝓛 : Logic 𝓤) (at_mem : Memory → SProp 𝓤) (run : Routine → Fun 𝓤) (𝓣 : Tables 𝓤 𝓛.H) where
    open 𝓛 use {H}

    abbrev held : Clauses 𝓤 ended
    held = F.clauses E.row 𝓛 at_mem run

    abbrev Bound : Type 0
    Bound = (walk_of 𝓛 ended stayed held).Ghost

    abbrev Goes : Bound → Type 1
    Goes y = ent 𝓤 ((walk_of 𝓛 ended stayed held).pre y) (WpFn 𝓤 H 𝓣.C 𝓣.Λ here ((walk_of 𝓛 ended stayed held).args y) ((walk_of 𝓛 ended stayed held).post y))

    walk : (z : Bound) → Goes z
    walk z =
        let h : room_d E = z.0.3.0 in let n : ℕ = h.len in let g : room_d E = z.0.3.1.0 in let m : ℕ = g.len in let vss = z.0.4 in
        let s : ℕ = sz E in
        let Post : Val → SProp 𝓤 = (walk_of 𝓛 ended stayed held).post z in
        let Run : List Val → SProp 𝓤 = λ ws. WpFn 𝓤 H 𝓣.C 𝓣.Λ here ws Post in
        let Ok : Type 0 = (g.ptr ≡ ptr_add (R E) n h.ptr) × ((n + m) * s < 2 ^ 63) × (n + m < 2 ^ 64) in
        qed 𝓛 ((raw (alive 𝓛 ended.signature z.0.0 z.0.1) ⊛ ‵ (owns (types_at ended.signature.params z.0.0) z.0.3 vss)) ∷ (raw (fact 𝓤 (z.0.0.0 ⊑ E.row.lives)) ⊛ raw (fact 𝓤 Ok)) ∷ []) ∵
        move ! (1 ∷ []) $ split ! $ drop ! $ heard ! Ok (λ ok. let fit : (n + m) * s < 2 ^ 63 = ok.1 in let fs : n + m < 2 ^ 64 = ok.2 in
        split ! $ move ! (1 ∷ []) $ fsplit ! $ room_had E ! h vss.0 (λ b o at_b e fn fit₁.
        move ! (1 ∷ []) $ fsplit ! $ room_had E ! g vss.1.0 (λ c p at_c e₁ fm fit₂.
        move ! (1 ∷ []) $ drop ! $
        let us : List Val = row_val b o n ∷ row_val c p m ∷ [] in
        suffices ! (Run us) (subst (λ (ws : List Val). ent 𝓤 (Run us) (Run ws)) (sym (λ k. e k ++ (e₁ k ++ []))) (id⊢ 𝓤 (Run us))) $
        let behind : block_ptr c p ≡ block_ptr b (n * s + o) = sym at_c ∙ ok.0 ∙ ap (ptr_add (R E) n) at_b in
        rewrite ! 0 (λ (π : Ptr). ‵ (slots (R E) π g.items (replicate m true))) behind refl $
        enter ! 𝓣.C 𝓣.Λ here us Post $ alloc_all ! (λ l. pass_all ! refl ((tt, (tt, (record { fits = fn }, tt))), ((tt, (tt, (record { fits = fm }, tt))), tt)) $
        let En : Env 𝓤 H = env here.locals l in
        sets ! (of_opd ! (get_in ! (fld ! refl (stop !)) (sub ! 0 refl (whole !)))) refl (tt, tt) $ sets ! (of_opd ! (get_in ! (fld ! refl (stop !)) (sub ! 1 refl (whole !)))) refl (tt, record { fits = fn }) $
        sets ! (of_opd ! (get_in ! (fld ! refl (stop !)) (sub ! 1 refl (whole !)))) refl (tt, record { fits = fm }) $
        sets ! (bin ! (get ! refl) (get ! refl) (record { fits = fs })) refl (tt, record { fits = fs }) $
        sets ! (agg ! (and_then ! (get ! refl) (and_then ! (get ! refl) (no_more !)))) refl (tt, (tt, (record { fits = fs }, tt))) $
        let lx : n ≡ length h.items = h.ok in let ly : m ≡ length g.items = g.ok in
        let all : room_d E = record { ptr = block_ptr b o; len = n + m; items = h.items ++ g.items; ok = (let a = length-append h.items g.items in omega arith); small = fs } in
        move ! (1 ∷ []) $
        use2 𝓛 (‵ (slots (R E) (block_ptr b o) (h.items ++ g.items) (replicate n true ++ replicate m true))) (row_glue E 𝓛 b h.items g.items (replicate n true) (replicate m true) o (n * s + o) (length-replicate n true ∙ lx) (ap (λ (k : ℕ). k * s + o) lx)) $
        rewrite ! 0 (λ (l : List Bool). ‵ (slots (R E) (block_ptr b o) (h.items ++ g.items) l)) (trues n m) refl $
        room_made E ! all b o refl fs fit $
        returns ! (look_at ! 0 refl) $ free_all ! refl $
        suffices ! _ (ends_at 𝓛 ended stayed held z (row_val b o (n + m)) all (tt, (tt, tt)) (tt, (tt, tt))) $ says ! (refl, sym at_b, refl) $
        nothing ! $ nothing ! $ nothing ! $ fjoin3 ! $ keep ! (2 ∷ 0 ∷ 1 ∷ []) $ done !))))

    meets : Meets 𝓛 ended.signature (WpFn 𝓤 H 𝓣.C 𝓣.Λ here) (closing 𝓛 ended held)
    meets =
        walk_Meets 𝓛 ended stayed (Goes-dropped 𝓛 1 (plain (λ _. Rr E)) no (λ κs x f. refl), (Goes-dropped 𝓛 1 (plain (λ _. Rr E)) no (λ κs x f. refl), tt)) held
        (WpFn 𝓤 H 𝓣.C 𝓣.Λ here) (WpFn-mono 𝓤 H 𝓛.laws 𝓣 here) walk

pub glue_spec : {M : Type 1} → stated.statement M
unfolding tables_of
glue_spec 𝓤 𝓛 𝓜 𝓡 wired X L =
    let E : El = record { row = X; laws = L } in
    let 𝓣 : Tables 𝓤 𝓛.H = tables_of 𝓤 𝓛.H 𝓜 (tables 𝓤 𝓛.H 𝓜 𝓡 𝓡.env) in
    entered 𝓤 𝓛.H (triple_of 𝓛 (F.signature X) (F.spec X 𝓛 𝓜.mem 𝓡.returns)) 𝓣.C 𝓣.Λ (#self (args E)) (here E) (code.unfolded 𝓤 𝓛.H 𝓜 𝓡 wired (X, tt))
    (meets E 𝓛 𝓜.mem 𝓡.returns 𝓣)
