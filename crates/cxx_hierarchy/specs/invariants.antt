pub mod VirtualRows
