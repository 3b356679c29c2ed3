-- What the section of address ranges holds: the view of its reader (DWARF 5, 6.1.2).
use Rattle.gimli_base.specs.View.{View}
use Rattle.gimli_lists.specs.declared.aranges.DebugAranges.{DebugAranges}

-- `.debug_aranges`
abbrev pub aranges_content : {R : Type 0} → (R → View) → DebugAranges R → View
aranges_content view s = view s.section
