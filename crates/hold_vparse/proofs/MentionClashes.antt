-- Where no mentions clash: the names of ports differ, those of wires do, those of instances do, and no instance has
-- the name of a net.
use Rattle.std.proofs.Common.{◌≡◌, map, Bool, true, false, refl, sym, subst, bytes_eq}
use Rattle.std.proofs.lemmas.Slice.Eq.{bytes_eq-Decides}
use Rattle.hold_netlist.specs.Names.{is_among}
use Rattle.hold_vsyntax.specs.declared.tree.Module.{Module}
use Rattle.hold_vparse.specs.Lines.{wire_lines, instances}
use Rattle.hold_vparse.specs.Nets.{names, port_idents, declared_names}
use Rattle.hold_vparse.specs.DoubleNames.{Role, ListsPort, DeclaresPort, GivesDirection, DeclaresWire, DeclaresInstance, UsesNet, Mention, clash, mentions}
use Rattle.hold_vparse.proofs.NameLists.{NoneAmong, Differ}
use Rattle.hold_vparse.proofs.Clashes.{NoneClash, picked, declared_again, picked-differ, picked-apart}
use Rattle.hold_vparse.proofs.MentionKinds.{by_role, is_port, is_wire, is_inst, claims, claims_net, line_name, inst_name, port_mentions, wire_mentions, inst_mentions}

wires_clash : (listed net : Bool) (r s : Role) → is_wire r ≡ true → is_wire s ≡ true → clash listed net r s ≡ true
wires_clash listed net DeclaresWire DeclaresWire h k = refl
wires_clash listed net DeclaresWire ListsPort h k = absurd cc
wires_clash listed net DeclaresWire DeclaresPort h k = absurd cc
wires_clash listed net DeclaresWire GivesDirection h k = absurd cc
wires_clash listed net DeclaresWire DeclaresInstance h k = absurd cc
wires_clash listed net DeclaresWire UsesNet h k = absurd cc
wires_clash listed net ListsPort s h k = absurd cc
wires_clash listed net DeclaresPort s h k = absurd cc
wires_clash listed net GivesDirection s h k = absurd cc
wires_clash listed net DeclaresInstance s h k = absurd cc
wires_clash listed net UsesNet s h k = absurd cc

ports_clash : (listed net : Bool) (r s : Role) → is_port r ≡ true → is_port s ≡ true → clash listed net r s ≡ true
ports_clash listed net ListsPort ListsPort h k = refl
ports_clash listed net ListsPort DeclaresPort h k = refl
ports_clash listed net ListsPort GivesDirection h k = absurd cc
ports_clash listed net ListsPort DeclaresWire h k = absurd cc
ports_clash listed net ListsPort DeclaresInstance h k = absurd cc
ports_clash listed net ListsPort UsesNet h k = absurd cc
ports_clash listed net DeclaresPort ListsPort h k = refl
ports_clash listed net DeclaresPort DeclaresPort h k = refl
ports_clash listed net DeclaresPort GivesDirection h k = absurd cc
ports_clash listed net DeclaresPort DeclaresWire h k = absurd cc
ports_clash listed net DeclaresPort DeclaresInstance h k = absurd cc
ports_clash listed net DeclaresPort UsesNet h k = absurd cc
ports_clash listed net GivesDirection s h k = absurd cc
ports_clash listed net DeclaresWire s h k = absurd cc
ports_clash listed net DeclaresInstance s h k = absurd cc
ports_clash listed net UsesNet s h k = absurd cc

-- an instance, and then a mention that claims its name, or declares it as an instance
inst_first : (listed net : Bool) (r s : Role) → is_inst r ≡ true → claims net s ≡ true → clash listed net r s ≡ true
inst_first listed net DeclaresInstance ListsPort h k = refl
inst_first listed net DeclaresInstance DeclaresPort h k = refl
inst_first listed net DeclaresInstance GivesDirection h k = refl
inst_first listed net DeclaresInstance DeclaresWire h k = refl
inst_first listed net DeclaresInstance DeclaresInstance h k = refl
inst_first listed net DeclaresInstance UsesNet h k = k
inst_first listed net ListsPort s h k = absurd cc
inst_first listed net DeclaresPort s h k = absurd cc
inst_first listed net GivesDirection s h k = absurd cc
inst_first listed net DeclaresWire s h k = absurd cc
inst_first listed net UsesNet s h k = absurd cc

inst_second : (listed net : Bool) (r s : Role) → claims net r ≡ true → is_inst s ≡ true → clash listed net r s ≡ true
inst_second listed net ListsPort DeclaresInstance h k = refl
inst_second listed net DeclaresPort DeclaresInstance h k = refl
inst_second listed net GivesDirection DeclaresInstance h k = refl
inst_second listed net DeclaresWire DeclaresInstance h k = refl
inst_second listed net DeclaresInstance DeclaresInstance h k = refl
inst_second listed net UsesNet DeclaresInstance h k = h
inst_second listed net r ListsPort h k = absurd cc
inst_second listed net r DeclaresPort h k = absurd cc
inst_second listed net r GivesDirection h k = absurd cc
inst_second listed net r DeclaresWire h k = absurd cc
inst_second listed net r UsesNet h k = absurd cc

insts_clash : (listed net : Bool) (r s : Role) → is_inst r ≡ true → is_inst s ≡ true → clash listed net r s ≡ true
insts_clash listed net DeclaresInstance DeclaresInstance h k = refl
insts_clash listed net DeclaresInstance ListsPort h k = absurd cc
insts_clash listed net DeclaresInstance DeclaresPort h k = absurd cc
insts_clash listed net DeclaresInstance GivesDirection h k = absurd cc
insts_clash listed net DeclaresInstance DeclaresWire h k = absurd cc
insts_clash listed net DeclaresInstance UsesNet h k = absurd cc
insts_clash listed net ListsPort s h k = absurd cc
insts_clash listed net DeclaresPort s h k = absurd cc
insts_clash listed net GivesDirection s h k = absurd cc
insts_clash listed net DeclaresWire s h k = absurd cc
insts_clash listed net UsesNet s h k = absurd cc

inst_claims_none : (net : Bool) (r : Role) → is_inst r ≡ true → claims net r ≡ false
inst_claims_none net DeclaresInstance h = refl
inst_claims_none net ListsPort h = absurd cc
inst_claims_none net DeclaresPort h = absurd cc
inst_claims_none net GivesDirection h = absurd cc
inst_claims_none net DeclaresWire h = absurd cc
inst_claims_none net UsesNet h = absurd cc

module _ (m : Module) (clear : NoneClash m (mentions m)) where
  differ_by_role : (p : Role → Bool) → ((listed net : Bool) (r s : Role) → p r ≡ true → p s ≡ true → clash listed net r s ≡ true) → Differ (picked (by_role p) (mentions m))
  differ_by_role p clashes =
      picked-differ m (by_role p) (λ x y px py same. declared_again m x y same (λ listed. clashes listed (is_among x.name.name (declared_names m)) x.role y.role px py)) (mentions m) clear

  pub ports_differ : Differ (names (port_idents m))
  ports_differ = subst Differ (port_mentions m) (differ_by_role is_port ports_clash)

  pub wires_differ : Differ (map line_name (wire_lines m.items))
  wires_differ = subst Differ (wire_mentions m) (differ_by_role is_wire wires_clash)

  pub insts_differ : Differ (map inst_name (instances m.items))
  insts_differ = subst Differ (inst_mentions m) (differ_by_role is_inst insts_clash)

  claimed_alike : (x y : Mention) → claims_net m y ≡ true → bytes_eq x.name.name y.name.name ≡ true → claims (is_among x.name.name (declared_names m)) y.role ≡ true
  claimed_alike x y h same = subst (λ n. claims (is_among n (declared_names m)) y.role ≡ true) (sym ((bytes_eq-Decides x.name.name y.name.name).0 same)) h

  pub insts_claim_none : NoneAmong (map inst_name (instances m.items)) (picked (claims_net m) (mentions m))
  insts_claim_none =
      subst (λ ns. NoneAmong ns (picked (claims_net m) (mentions m))) (inst_mentions m)
      (picked-apart m (by_role is_inst) (claims_net m) (λ x inst. inst_claims_none (is_among x.name.name (declared_names m)) x.role inst)
      (λ x y inst net same. declared_again m x y same (λ listed. inst_first listed (is_among x.name.name (declared_names m)) x.role y.role inst (claimed_alike x y net same)))
      (λ x y net inst same. declared_again m x y same (λ listed. inst_second listed (is_among x.name.name (declared_names m)) x.role y.role net inst))
      (mentions m) clear)
