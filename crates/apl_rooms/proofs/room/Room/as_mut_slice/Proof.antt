-- `as_mut_slice` lends the values, and the room follows them, for every element type. Assumes `Logic`.
use mathlib.Core.Path.{◌≡◌, refl, sym, ap, ◌∙◌}
use mathlib.Core.Bool.{true, false}
use Prim.Native.Nat.{ℕ, ◌*◌, ◌<◌, ◌^◌}
use native.Mathlib.Omega.{arith}
use mathlib.Core.List.{List, [], ◌∷◌, ◌++◌}
use lib.ListN.{length, take, drop as drop_l, replicate, length-replicate, get_or-replicate}
use base.Fraction.{full_share}
use mir.Syntax.{Fn, named}
use mir.Val.{Val, vptr}
use base.Fml.{GName, Fml, ftrue, fsep, flft}
use seplogic.Ra.Ura.{Ura}
use mir.MapTy.{inst_fn}
use base.Logic.{SProp, ent, sep}
use prog.Memory.{Memory}
use prog.Routine.{Routine}
use prog.Wp.{Env, WpFn, Tables}
use types.Logic.{Logic, sem}
use types.SemTy.{cells}
use contract.Monad.{Fun}
use contract.Running.{tables, tables_of}
use denote.RattleType.{owns}
use denote.Signature.{plain, types_at}
use denote.Steps.{nothing}
use denote.Triple.Clauses.{Clauses, Ended, closing}
use denote.Triple.Spec.{Meets, triple_of}
use denote.Triple.Table.{entered}
use sound.WpLaws.{WpFn-mono}
use types.Kit.{‵, raw, ◌⊛◌, some, later, at_ret, ◌$◌, ◌∵◌, !, qed, by, move, keep, use1, split, split3, join, pick, rewrite, fsplit, fsplit3, fjoin, fpack, suffices, frame, await, group, done}
use types.Part.{whole, sub, look_in, agg}
use types.Run.{stop, fld, load, of_opd, no_more, and_then, first, blocks, exec, returns, enter}
use types.ByLocal.{alloc_all, pass_all, free_all, look_at, get, through, sets, sets_last, env}
use denote.Exit.{no}
use denote.Builtin.{RefMutOf}
use denote.Array.{Array}
use denote.Index.{row, whole_in, whole_out}
use denote.Memory.{cell_at, part_of, mem}
use denote.RawPtr.{block_ptr}
use denote.Ref.{mut_vals, mut_Tells}
use denote.Slice.{MutSlice, slice_val}
use denote.FollowSlice.{Elements, lends_Elements}
use denote.Follow.{follows}
use denote.Triple.Walked.{Stays, stay_dropped, walk_of, ends_at, walked, Goes-spent_ref, walk_Meets}
use Rattle.core.proofs.mem.Facts.{says_two}
use Rattle.core.proofs.mem.Param.{El, R, args, el_x}
use Rattle.core.proofs.slots.Bodies.{after}
use Rattle.core.specs.Mem.Slots.Ownership.{slots}
use Rattle.core.proofs.slots.Places.{sz, of_row, to_row}
use Rattle.core.proofs.slots.Opens.{row_val}
use Rattle.apl_rooms.specs.Rooms.{with_items}
use Rattle.apl_rooms.proofs.Opens.{Rr, room_d, room_opens, room_made}
use Rattle.apl_rooms.specs.contracts.room.Room.as_mut_slice as F
use Rattle.apl_rooms.specs.contracts.room.Room.as_mut_slice.Key.{name as #self}
use Rattle.apl_rooms.proofs.room.Room.as_mut_slice.Statement as stated
use Rattle.apl_rooms.proofs.room.Room.as_mut_slice.Code as code

take-front : {X : Type 0} (xs ys : List X) → take (length xs) (xs ++ ys) ≡ xs
take-front [] [] = refl
take-front [] (y ∷ ys) = refl
take-front {X} (x ∷ xs) ys = ap (λ (l : List X). x ∷ l) (take-front xs ys)

module _ (E : El) {M : Type 1} {𝓤 : Ura M} (𝓛 : Logic 𝓤) (rb ro b o : ℕ) (h : room_d E) where
  -- the room's two words
  abbrev Rest : Fml
  Rest = cell_at full_share (Rr E).mir (row_val b o h.len ∷ []) rb ro

  items_are : (ws : List (el_x E)) → length ws ≡ h.len → (with_items h ws).items ≡ ws
  items_are ws e = ap (λ (k : ℕ). take k (ws ++ drop_l (length ws) h.items)) (sym e) ∙ take-front ws (drop_l (length ws) h.items)

  back : h.ptr ≡ block_ptr b o → h.len < 2 ^ 64 → h.len * sz E < 2 ^ 63 → (ws : List (el_x E)) → length ws ≡ length h.items
      → ent 𝓤 (sep 𝓤 (sem 𝓛 (cells (mem (R E)) ws b o)) (sem 𝓛 Rest)) (sem 𝓛 ((mem (Rr E)).own_at (with_items h ws) rb ro))
  unfolding part_of
  back at_b fl fit ws e =
      let l : length ws ≡ h.len = e ∙ sym h.ok in
      qed 𝓛 (‵ (cells (mem (R E)) ws b o) ∷ ‵ Rest ∷ []) ∵ use1 𝓛 (‵ (row (R E) full_share ws b o)) (whole_out 𝓛 (R E) ws b o) $
      use1 𝓛 (‵ (slots (R E) (block_ptr b o) ws (replicate (length ws) true))) (of_row E 𝓛 b ws o) $
      rewrite ! 0 (λ (n : ℕ). ‵ (slots (R E) (block_ptr b o) ws (replicate n true))) l refl $
      rewrite ! 0 (λ (ys : List (el_x E)). ‵ (slots (R E) (block_ptr b o) ys (replicate h.len true))) (sym (items_are ws l)) refl $
      room_made E ! (with_items h ws) b o at_b fl fit $ move ! (1 ∷ 0 ∷ []) $ fjoin ! $
      fpack ! (List Val) (λ us. fsep (cell_at full_share (Rr E).mir us rb ro) ((Rr E).own_val (with_items h ws) us)) (row_val b o h.len ∷ []) $ done !

module _ (E : El) where
  abbrev here : Fn
  here = inst_fn (args E) code.function

  abbrev ended : Ended
  ended = F.ended E.row

  abbrev stayed : Stays ended.signature.params ended.kept
  stayed = (stay_dropped (RefMutOf (0 ∷ []) tt (plain (λ _. Rr E)) (λ _. tt)) no, tt)

  module _ {M : Type 1} {𝓤 : Ura M} (𝓛 : Logic 𝓤) (at_mem : Memory → SProp 𝓤) (run : Routine → Fun 𝓤) (𝓣 : Tables 𝓤 𝓛.H) where
    open 𝓛 use {H}

    abbrev held : Clauses 𝓤 ended
    held = F.clauses E.row 𝓛 at_mem run

    abbrev Bound : Type 0
    Bound = (walk_of 𝓛 ended stayed held).Ghost

    abbrev Goes : Bound → Type 1
    Goes y = ent 𝓤 ((walk_of 𝓛 ended stayed held).pre y) (WpFn 𝓤 H 𝓣.C 𝓣.Λ here ((walk_of 𝓛 ended stayed held).args y) ((walk_of 𝓛 ended stayed held).post y))

    abbrev spelled : Bound → Bound
    spelled z = ((z.0.0, z.0.1, z.0.2, z.0.3, (mut_vals z.0.3.0, tt)), z.1)

    exits : (z : Bound) (b o : ℕ) (γ' : GName)
        → ent 𝓤 (sep 𝓤 (sep 𝓤 (sem 𝓛 ((MutSlice (named 0) z.0.0.0 (R E)).own_val (record { ref_ptr = (b, o); ghost_name = γ'; now = z.0.3.0.now.items }) (slice_val (b, o) (length z.0.3.0.now.items) ∷ [])))
        (sep 𝓤 (𝓛.A.lft z.0.0.0 z.0.1.0) (sem 𝓛 (follows (Rr E) (Array (R E) 0) z.0.3.0.ghost_name γ' (with_items z.0.3.0.now))))) (sep 𝓤 (𝓛.A.lft z.0.0.1.0 z.0.1.1.0) (sem 𝓛 ftrue))) ((walk_of 𝓛 ended stayed held).post (spelled z) (slice_val (b, o) z.0.3.0.now.len))
    exits z b o γ' =
        let h : room_d E = z.0.3.0.now in let κ = z.0.0.0 in let κ₁ = z.0.0.1.0 in let q = z.0.1.0 in let q₁ = z.0.1.1.0 in
        qed 𝓛 ((‵ ((MutSlice (named 0) κ (R E)).own_val (record { ref_ptr = (b, o); ghost_name = γ'; now = h.items }) (slice_val (b, o) (length h.items) ∷ [])) ⊛ ‵ (flft κ q) ⊛ ‵ (follows (Rr E) (Array (R E) 0) z.0.3.0.ghost_name γ' (with_items h))) ∷ (‵ (flft κ₁ q₁) ⊛ ‵ ftrue) ∷ []) ∵
        split3 ! $
        rewrite ! 0 (λ (j : ℕ). ‵ ((MutSlice (named 0) κ (R E)).own_val (record { ref_ptr = (b, o); ghost_name = γ'; now = h.items }) (slice_val (b, o) j ∷ []))) (sym h.ok) refl $
        suffices ! _ (ends_at 𝓛 ended stayed held (spelled z) (slice_val (b, o) h.len) (record { ref_ptr = (b, o); ghost_name = γ'; now = h.items }) (tt, tt) (tt, tt)) $
        nothing ! $ nothing ! $ fjoin ! $ join ! $ move ! (1 ∷ 3 ∷ []) $ join ! $ join ! $ frame ! $ says_two ! (refl, sym h.ok) $ keep ! (0 ∷ []) $ done !

    walk : (z : Bound) → Goes (spelled z)
    walk z =
        let κ = z.0.0.0 in let κ₁ = z.0.0.1.0 in let q = z.0.1.0 in let q₁ = z.0.1.1.0 in
        let rb : ℕ = z.0.3.0.ref_ptr.0 in let ro : ℕ = z.0.3.0.ref_ptr.1 in let γ : GName = z.0.3.0.ghost_name in let h : room_d E = z.0.3.0.now in
        let Post : Val → SProp 𝓤 = (walk_of 𝓛 ended stayed held).post (spelled z) in
        let n : ℕ = h.len in let xs : List (el_x E) = h.items in let s : ℕ = sz E in
        qed 𝓛 (((‵ (flft κ q) ⊛ ‵ (flft κ₁ q₁) ⊛ ‵ ftrue) ⊛ ‵ (owns (types_at ended.signature.params z.0.0) z.0.3 (spelled z).0.4)) ∷ raw ((held (spelled z).0.0 (spelled z).0.3).requires z.1) ∷ []) ∵
        split ! $ split ! $ move ! (2 ∷ []) $ fsplit ! $ fsplit3 ! $ keep ! (1 ∷ 2 ∷ 4 ∷ 5 ∷ []) $
        enter ! 𝓣.C 𝓣.Λ here (vptr rb ro ∷ []) _ $ alloc_all ! (λ l. pass_all ! refl ((tt, tt), tt) $
        let En : Env 𝓤 H = env here.locals l in
        room_opens E ! tt h rb ro (λ b o at_b fl fit.
        let lens : n ≡ length xs = h.ok in
        let roomy : length xs < 2 ^ 64 = omega arith in
        let fitting : length xs * s < 2 ^ 63 = (let P : ℕ → Type 0 = λ k. k * s < 2 ^ 63 in mathlib.Core.Path.subst P lens fit) in
        first ! $ blocks ! $
        sets ! (of_opd ! (load ! (through ! refl (fld ! refl (stop !))) (look_in ! 1 (sub ! 0 refl (whole !))))) refl (tt, tt) $
        sets ! (of_opd ! (load ! (through ! refl (fld ! refl (stop !))) (look_in ! 1 (sub ! 1 refl (whole !))))) refl (tt, record { fits = fl }) $
        sets_last ! (agg ! (and_then ! (get ! refl) (and_then ! (get ! refl) (no_more !)))) refl (tt, (tt, (record { fits = fl }, tt))) $
        exec ! 𝓣.C 𝓣.Λ En (after 1 here.body) (at_ret En Post) $
        sets ! (of_opd ! (get ! refl)) refl (tt, (tt, (record { fits = fl }, tt))) $
        use1 𝓛 (‵ (row (R E) full_share xs b o)) (to_row E 𝓛 b xs (replicate n true) o (length-replicate n true ∙ lens) (λ k lt. get_or-replicate n k true false (let at_n = length-replicate n true in omega arith))) $
        use1 𝓛 (‵ (cells (mem (R E)) xs b o)) (whole_in 𝓛 (R E) xs b o) $
        -- [the elements; the words; the open borrow; obs; auth]
        move ! (2 ∷ 3 ∷ 4 ∷ 0 ∷ 1 ∷ []) $ group ! 5 $
        use1 𝓛 (later (some (λ (γ' : GName). raw (Elements 𝓛 (Rr E) (R E) (with_items h) (named 0) κ q rb ro b o γ xs (roomy, fitting) (sem 𝓛 (Rest E 𝓛 rb ro b o h)) (back E 𝓛 rb ro b o h at_b fl fit) γ'))))
        (lends_Elements 𝓛 (Rr E) (R E) (with_items h) (named 0) κ q rb ro b o γ xs (roomy, fitting) (sem 𝓛 (Rest E 𝓛 rb ro b o h)) (back E 𝓛 rb ro b o h at_b fl fit) ((Rr E).coded.code h) ((Rr E).coded.code h)) $ await ! tt $ pick ! (λ γ'.
        returns ! (look_at ! 0 refl) $ free_all ! refl $
        keep ! (0 ∷ 1 ∷ []) $ by ! (exits z b o γ'))))

    meets : Meets 𝓛 ended.signature (WpFn 𝓤 H 𝓣.C 𝓣.Λ here) (closing 𝓛 ended held)
    meets =
        walk_Meets 𝓛 ended stayed (Goes-spent_ref 𝓛 2 (0 ∷ []) tt (plain (λ _. Rr E)), tt) held (WpFn 𝓤 H 𝓣.C 𝓣.Λ here) (WpFn-mono 𝓤 H 𝓛.laws 𝓣 here)
        (walked 𝓛 ended stayed held (WpFn 𝓤 H 𝓣.C 𝓣.Λ here) (λ κs. (mut_vals, tt)) (λ κs. (mut_Tells (named 0) κs.0 (Rr E), tt))
        (λ κs qs bounds a g are. walk ((κs, qs, bounds, a, (mut_vals a.0, tt)), g)))

pub as_mut_slice_spec : {M : Type 1} → stated.statement M
unfolding tables_of
as_mut_slice_spec 𝓤 𝓛 𝓜 𝓡 wired X L =
    let E : El = record { row = X; laws = L } in
    let 𝓣 : Tables 𝓤 𝓛.H = tables_of 𝓤 𝓛.H 𝓜 (tables 𝓤 𝓛.H 𝓜 𝓡 𝓡.env) in
    entered 𝓤 𝓛.H (triple_of 𝓛 (F.signature X) (F.spec X 𝓛 𝓜.mem 𝓡.returns)) 𝓣.C 𝓣.Λ (#self (args E)) (here E) (code.unfolded 𝓤 𝓛.H 𝓜 𝓡 wired (X, tt))
    (meets E 𝓛 𝓜.mem 𝓡.returns 𝓣)
